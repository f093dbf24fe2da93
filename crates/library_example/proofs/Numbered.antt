-- The APDUs of a report: its pieces, numbered.
use Rattle.std.proofs.Common.{◌≡◌, ℕ, ◌+◌, ◌%◌, ◌^◌, List, [], ◌∷◌, ◌++◌, true, refl, ap}
use Rattle.std.specs.List.{flat_map, AllByRecursion}
use Rattle.apci.specs.declared.apdu.Apdu.{Apdu}
use Rattle.apci.specs.declared.apdu.Apdu.TheVariants.{I}
use Rattle.asdu.specs.Sizes.{tcp}
use Rattle.asdu.specs.declared.sizes.Sizes.{Sizes}
use Rattle.asdu.specs.Asdu.{AsduValue, IsAsdu}
use Rattle.asdu.specs.Refusals.{is_read}
use Rattle.asdu.specs.Translation.{IsPiece}
use Rattle.asdu.specs.Writing.{with_infos}
use Rattle.asdu.specs.InformationObjects.{objects_of}
use Rattle.library_example.specs.Carrying.{objects_in, AreNumbered}

-- the pieces as I formats, numbered from n on
abbrev pub numbered : ℕ → List (List ℕ) → List Apdu
numbered n [] = []
numbered n (p ∷ ps) = I n 0 (record { items = p }) ∷ numbered ((n + 1) % 2 ^ 15) ps

pub numbered-AreNumbered : (v : AsduValue)
    → ((s : Sizes) (u : AsduValue) (xs : List ℕ) → IsAsdu s u xs → is_read s xs ≡ true)
    → (n : ℕ) (ps : List (List ℕ)) → AllByRecursion (λ p. IsPiece v p) ps
    → AreNumbered n (numbered n ps)
numbered-AreNumbered v read n [] pieces = tt
numbered-AreNumbered v read n (p ∷ ps) pieces = (
  (refl, refl, read tcp (with_infos v pieces.0.infos) p pieces.0.spells),
  numbered-AreNumbered v read ((n + 1) % 2 ^ 15) ps pieces.1,
)

-- they carry the objects of the pieces
pub objects-numbered : (n : ℕ) (ps : List (List ℕ))
    → flat_map objects_in (numbered n ps) ≡ flat_map (λ p. objects_of tcp p) ps
objects-numbered n [] = refl
objects-numbered n (p ∷ ps) =
    ap (λ os. objects_of tcp p ++ os) (objects-numbered ((n + 1) % 2 ^ 15) ps)
