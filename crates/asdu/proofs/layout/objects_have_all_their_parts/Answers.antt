use Rattle.std.proofs.Common.{◌≡◌, ℕ, zero, suc, List, [], ◌∷◌, map, length, Option, Some, refl, ap}
use Rattle.std.proofs.Common.{sym, ◌∙◌}
use Rattle.std.specs.Prelude.{option_map, slice_get}
use Rattle.asdu.specs.Asdu.{AsduValue, Info, IsAsdu}
use Rattle.asdu.specs.InformationObjects.{InformationObject, object_in}
use Rattle.asdu.proofs.Related.{objects_of-IsAsdu, length-value_objects}
use Rattle.asdu.proofs.layout.objects_have_all_their_parts.Goals as goal

pub returns-clause-number : goal.returns-clause-number
returns-clause-number c = λ s u xs is.
    ap length (objects_of-IsAsdu s u xs is) ∙ length-value_objects u

got : (f : Info → InformationObject) (infos : List Info) (k : ℕ) (i : Info)
    → slice_get infos k ≡ Some i
    → slice_get (map f infos) k ≡ Some (f i)
got f [] k i at = absurd cc
got f (x ∷ infos) zero i at = ap (option_map f) at
got f (x ∷ infos) (suc k) i at = got f infos k i at

pub returns-clause-parts : goal.returns-clause-parts
returns-clause-parts c = λ s u xs is k i at. (
  object_in u i,
  ap (λ os. slice_get os k) (objects_of-IsAsdu s u xs is) ∙ got (object_in u) u.infos k i at,
  record {
    kind = refl;
    cause = refl;
    originator = refl;
    ca = refl;
    address = refl;
    element = refl;
    tag = refl;
  },
)
