-- How many objects the pieces of an answer have, and which reports have pieces.
use Rattle.std.specs.Prelude.{if◌then◌else◌}
use Rattle.std.specs.List.{AllByRecursion}
use Rattle.std.proofs.Common.{◌≡◌, ℕ, ◌/◌, List, [], ◌∷◌}
use Rattle.std.proofs.Common.{◌∙◌}

pub each_one : {P Q : List ℕ → Type 0} → ((x : List ℕ) → P x → Q x) → (xs : List (List ℕ))
    → AllByRecursion P xs → AllByRecursion Q xs
each_one f [] h = tt
each_one f (x ∷ xs) h = (f x h.0, each_one f xs h.1)
