-- When a poll may go out.
use Rattle.std.specs.Prelude.{nat_lt, Bool, not}
use Rattle.events.specs.Queue.{Queue, free_places}

-- the pieces of any report have places
abbrev pub has_room : Queue → Bool
has_room q = not (nat_lt (free_places q) 3)
