-- A queue that goes on with another number of places (profile).
use Rattle.std.specs.Prelude.{ℕ, []}
use Rattle.events.specs.Queue.{Queue, kept}

-- All pieces in their order, unsent, and so many places. If more pieces are kept than that, no
-- place is free until enough of them have left.
abbrev pub carried : (places : ℕ) → Queue → Queue
carried places q = record { sent = []; unsent = kept q; places = places }
