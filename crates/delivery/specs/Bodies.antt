-- What stands behind the header of the ASDUs that carry a report, octet by octet (IEC 60870-5-101,
-- 7.2.2, 7.2.5 and 7.2.6, in the sizes of IEC 60870-5-104, 7).
use Rattle.std.specs.Prelude.{◌≡◌, ℕ, zero, suc, ◌+◌, ◌%◌, List, [], ◌∷◌, ◌++◌, take, drop}
use Rattle.std.specs.Prelude.{slice_index}
use Rattle.asdu.specs.declared.sizes.IoaSize.{IoaSize}
use Rattle.asdu.specs.declared.sizes.IoaSize.TheVariants as ioas
use Rattle.asdu.specs.Layout.{address_octets, object_address_at}
use Rattle.delivery.specs.Answers.{object_address_in_three}

-- With SQ 0 so many objects stand in these octets. Each has its address, which has three octets
-- then, and so many octets of element and time tag behind it.
abbrev pub wide_objects : IoaSize → (content count : ℕ) → List ℕ → List ℕ
wide_objects w content zero xs = []
wide_objects w content (suc n) xs =
    object_address_in_three w 0 xs
    ++ (take content (drop (address_octets w) xs)
    ++ wide_objects w content n (drop content (drop (address_octets w) xs)))

-- With SQ 1 the first of these ASDUs begins at this address, and each further one behind all
-- objects of those before.
abbrev pub BeginAt : (address : ℕ) → List (List ℕ) → Type 0
BeginAt address [] = Unit {0}
BeginAt address (piece ∷ pieces) =
    (object_address_at ioas.Three 6 piece ≡ address)
    × BeginAt (address + slice_index piece 1 % 128) pieces
