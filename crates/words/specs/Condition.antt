-- What octets after a frame do to what is shown (this gateway's own profile).
use Rattle.std.specs.Prelude.{ℕ, ◌==◌, if◌then◌else◌, codes, List, [], ◌∷◌, ◌++◌}
use Rattle.std.specs.Fmt.{decimal}
use Rattle.words.specs.declared.facts.condition.Condition.{Condition}
use Rattle.words.specs.declared.facts.condition.Condition.TheVariants.{Faulty}

-- the line for the octets after a frame, if there are any
abbrev pub rest_line : ℕ → List ℕ
rest_line n = if n == 0 then [] else codes "rest " ++ decimal n ++ 10 ∷ []

-- octets that are left over are a fault
abbrev pub with_rest : ℕ → Condition → Condition
with_rest n o = if n == 0 then o else Faulty
