-- The ASDUs of IEC 60870-5-104 that a report of the line is cut into. Their sizes and the 249
-- octets of an ASDU are the standard's (60870-5-104, 5.1 and 7); how a longer report is cut is this
-- gateway's own profile.
use Rattle.std.specs.Prelude.{◌≡◌, ℕ, zero, suc, ◌+◌, ◌/◌, ◌≤◌, min, Bool, true, false}
use Rattle.std.specs.Prelude.{if◌then◌else◌, List, [], ◌∷◌, length, take, drop, map, slice_index}
use Rattle.std.specs.Prelude.{Option, Some, None, is_some, ⊤}
use Rattle.std.specs.Int.{div_ceil}
use Rattle.elements.specs.declared.types.TypeId.{TypeId}
use Rattle.elements.specs.Types.{type_of}
use Rattle.asdu.specs.Sizes.{tcp}
use Rattle.asdu.specs.declared.sizes.Sizes.{Sizes}
use Rattle.asdu.specs.Asdu.{AsduValue, Info, IsAsdu, content_len, spelled}
use Rattle.asdu.specs.declared.objects.Objects.{Objects}
use Rattle.asdu.specs.declared.unit.Asdu.{Asdu}
use Rattle.asdu.specs.Fields.{number_at, is_sequence}
use Rattle.asdu.specs.Refusals.{is_read}
use Rattle.asdu.specs.Writing.{with_infos}

-- The most objects of a piece, whose header has 6 octets and whose addresses have 3: with SQ 0 each
-- object has its address, with SQ 1 only the first.
abbrev pub piece_size : TypeId → Bool → ℕ
piece_size t false = 243 / (3 + content_len t)
piece_size t true = min 127 (240 / content_len t)

abbrev pub typed_parts : Option TypeId → List ℕ → ℕ
typed_parts None xs = 0
typed_parts (Some t) xs = div_ceil (number_at xs) (piece_size t (is_sequence xs))

-- how many pieces a report is cut into: its objects divided by the piece size, rounded up; 0 of no
-- ASDU
unfoldable pub parts : Sizes → List ℕ → ℕ
parts s xs = if is_read s xs then typed_parts (type_of (slice_index xs 0)) xs else 0

-- so many chunks of n items, the last one what is left
abbrev pub chunks : {X : Type 0} → (n count : ℕ) → List X → List (List X)
chunks n zero xs = []
chunks n (suc count) xs = take n xs ∷ chunks n count (drop n xs)

-- in chunks of n items
abbrev pub in_chunks : {X : Type 0} → ℕ → List X → List (List X)
in_chunks n xs = chunks n (div_ceil (length xs) n) xs

-- some of an ASDU's objects with its header, in the sizes of IEC 60870-5-104; with SQ 1 their
-- addresses begin at the first one's own
abbrev pub piece_with : AsduValue → List Info → List ℕ
piece_with v infos = spelled tcp (with_infos v infos)

-- the pieces of a report: its objects in chunks as large as can be
unfoldable pub report_pieces : AsduValue → List (List ℕ)
report_pieces v = map (piece_with v) (in_chunks (piece_size v.kind v.sequence) v.infos)

-- what is left of a report: objects of its type and mode, and the most that a piece takes of them
pub record IsLeft (asdu : Asdu) (left : Objects) (size : ℕ) : Type 0 where
  pub kind : left.kind ≡ asdu.kind
  pub mode : is_some left.next_address ≡ is_sequence asdu.octets.now
  pub most : size ≡ piece_size asdu.kind (is_sequence asdu.octets.now)

-- the octets are a piece of the ASDU: an ASDU of at most 249 octets with its header and some of its
-- objects
pub record IsPiece (v : AsduValue) (xs : List ℕ) : Type 0 where
  pub infos : List Info
  pub spells : IsAsdu tcp (with_infos v infos) xs
  pub size : length infos ≤ piece_size v.kind v.sequence
  pub fits : length xs ≤ 249

-- a piece as large as can be
abbrev pub IsLargest : AsduValue → List ℕ → Type 0
IsLargest v xs = number_at xs ≡ piece_size v.kind v.sequence

-- all but the last
abbrev pub AllButLast : {X : Type 0} → (X → Type 0) → List X → Type 0
AllButLast P [] = ⊤
AllButLast P (x ∷ []) = ⊤
AllButLast P (x ∷ y ∷ ys) = P x × AllButLast P (y ∷ ys)
