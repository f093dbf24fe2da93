-- Why octets are no ASDU: this gateway's own numbers, the first that applies.
use Rattle.std.specs.Prelude.{ℕ, ◌+◌, ◌*◌, ◌^◌, Bool, true, false, not, ◌&&◌, ◌==◌, nat_lt}
use Rattle.std.specs.Prelude.{if◌then◌else◌, List, length, slice_index, Option, Some, None, is_none}
use Rattle.elements.specs.declared.types.TypeId.{TypeId}
use Rattle.elements.specs.Types.{type_of}
use Rattle.asdu.specs.Sizes.{ioa_len, header_len}
use Rattle.asdu.specs.declared.sizes.Sizes.{Sizes}
use Rattle.asdu.specs.Asdu.{content_len}
use Rattle.asdu.specs.Fields.{number_at, is_sequence, first_address}

-- the octets of n objects with addresses of w octets
abbrev pub body_len : TypeId → ℕ → Bool → ℕ → ℕ
body_len t w false n = n * (w + content_len t)
body_len t w true n = w + n * content_len t

-- of octets of type t: 3 no object, 4 a length that type, SQ, number and sizes don't give, 5 with
-- SQ 1 a last address past the address size
abbrev pub body_refusal : Sizes → TypeId → List ℕ → Option ℕ
body_refusal s t xs =
    if number_at xs == 0 then Some 3
    else (if not (length xs
    == header_len s + body_len t (ioa_len s.ioa) (is_sequence xs) (number_at xs))
    then Some 4
    else (if is_sequence xs && nat_lt (256 ^ ioa_len s.ioa) (first_address s xs + number_at xs)
    then Some 5
    else None))

-- 2 a type that isn't known
abbrev pub typed_refusal : Sizes → Option TypeId → List ℕ → Option ℕ
typed_refusal s None xs = Some 2
typed_refusal s (Some t) xs = body_refusal s t xs

-- 1 too short for a header and an object address
abbrev pub refusal : Sizes → List ℕ → Option ℕ
refusal s xs =
    if nat_lt (length xs) (header_len s + ioa_len s.ioa) then Some 1
    else typed_refusal s (type_of (slice_index xs 0)) xs

-- nothing to refuse: the octets are an ASDU
abbrev pub is_read : Sizes → List ℕ → Bool
is_read s xs = is_none (refusal s xs)
