-- The first station that has a line to be logged.
use Rattle.std.proofs.Common.{◌≡◌, ℕ, zero, suc, ◌<◌, List, [], ◌∷◌, Option, Some, length}
use Rattle.std.proofs.Common.{get_or, set, take, drop, refl, ap, arith}
use Rattle.runlog.specs.Traffic.{traffic_line, first_line, behind}
use Rattle.runlog.specs.declared.note.LogLine.{LogLine}
use Rattle.runlog.specs.declared.traffic.Traffic.{Traffic}

-- this one has
pub some_last : (now i : ℕ) (xs : List Traffic) (d t : Traffic) (line : LogLine) → i < length xs
    → traffic_line now (get_or xs i d) ≡ (t, Some line)
    → (set xs i t, Some line) ≡ behind (take i xs) (first_line now (drop i xs))
some_last now i [] d t line less e = absurd (omega (arith, less))
some_last now zero (x ∷ xs) d t line less e = rw e refl
some_last now (suc i) (x ∷ xs) d t line less e =
    ap (λ (r : List Traffic × Option LogLine). (x ∷ r.0, r.1))
    (some_last now i xs d t line (omega (arith, less)) e)
