use Rattle.std.proofs.Common.{◌≡◌, ℕ, ◌-◌, ◌≤◌, List, ◌++◌, length, take, drop, ap, arith}
use Rattle.std.proofs.Common.{length-append}
use Rattle.std.proofs.lemmas.List.{length-drop, length-take}
use Rattle.events.specs.Queue.{kept}
use Rattle.events.proofs.laws.pieces_outlive_other_places.Goals as goal

-- the pieces that are left, once the n oldest went out and were acknowledged
left : (n : ℕ) (pieces : List (List ℕ)) → n ≤ length pieces
    → length (drop n (take n pieces) ++ drop n pieces) ≡ length pieces - n
left n pieces le = omega (
  arith,
  le,
  length-append (drop n (take n pieces)) (drop n pieces),
  length-drop n (take n pieces),
  length-take n pieces,
  length-drop n pieces,
)

pub returns-clause-free : goal.returns-clause-free
returns-clause-free c = λ places n q le. ap (λ (k : ℕ). places - k) (left n (kept q) le)
