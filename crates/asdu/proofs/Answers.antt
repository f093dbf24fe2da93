-- The answer of `read`, against the objects of the octets.
use Rattle.std.proofs.Common.{◌≡◌, ℕ, List, [], Some, Result, Ok, Err, ap}
use Rattle.std.specs.Prelude.{IfOk, IfErr, is_none}
use Rattle.asdu.specs.declared.sizes.Sizes.{Sizes}
use Rattle.asdu.specs.declared.unit.Asdu.{Asdu}
use Rattle.asdu.specs.declared.unit.Refused.{Refused}
use Rattle.asdu.specs.Asdu.{IsAsdu}
use Rattle.asdu.specs.Refusals.{refusal}
use Rattle.asdu.specs.InformationObjects.{value_objects, objects_of, monitor_objects_of}
use Rattle.asdu.specs.Reading.{value_of}
use Rattle.asdu.proofs.Related.{objects_of-IsAsdu, no_objects, no_monitor_objects}

pub objects : (s : Sizes) (xs : List ℕ) (r : Result Asdu Refused)
    → IfOk r (λ a. IsAsdu s (value_of a) xs)
    → IfOk r (λ a. objects_of s xs ≡ value_objects (value_of a))
objects s xs (Ok a) h = objects_of-IsAsdu s (value_of a) xs h
objects s xs (Err why) h = tt

pub nothing : (s : Sizes) (xs : List ℕ) (r : Result Asdu Refused)
    → IfErr r (λ why. refusal s xs ≡ Some why.0)
    → IfErr r (λ _. (objects_of s xs ≡ []) × (monitor_objects_of s xs ≡ []))
nothing s xs (Ok a) h = tt
nothing s xs (Err why) h =
    let refused = ap (λ o. is_none o) h in
    (no_objects s xs refused, no_monitor_objects s xs refused)
