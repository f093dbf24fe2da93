-- A queue as lines, and read back from them (profile).
use Rattle.std.specs.Prelude.{ℕ, List, [], ◌∷◌, ◌++◌, length, take, drop}
use Rattle.std.specs.List.{AllByRecursion}
use Rattle.checkpoint.specs.Octets.{IsOctetLine}
use Rattle.events.specs.Pieces.{AreSendable}
use Rattle.events.specs.Queue.{Queue, kept}

-- how many pieces are kept and how many of them were sent, and then each piece, the oldest first
abbrev pub queue_lines : Queue → List (List ℕ)
queue_lines q = (length (kept q) ∷ length q.sent ∷ []) ∷ kept q

-- What holds of each queue, and is needed to read it back.
pub record IsSavable (q : Queue) : Type 0 where
  pub sendable : AreSendable (kept q)
  pub octets : AllByRecursion IsOctetLine (kept q)

-- the same pieces, and so many places
abbrev pub in_places : ℕ → Queue → Queue
in_places places q = record { sent = q.sent; unsent = q.unsent; places = places }

-- the n oldest unsent pieces were sent
abbrev pub marked : ℕ → Queue → Queue
marked n q =
    record { sent = q.sent ++ take n q.unsent; unsent = drop n q.unsent; places = q.places }
