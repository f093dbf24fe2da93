-- The moments of a record as times of the wall clock.
use Rattle.std.specs.Prelude.{ℕ, ◌-◌, ◌+◌, ◌*◌, ◌^◌, min, max}
use Rattle.record.specs.declared.capture.clock.Clock.{Clock}
use Rattle.gateway.specs.Log.{LogEntry, Came, Went, WallIs, last_moment, latest}

-- an event comes: a moment that goes back counts as the greatest so far, and one past the last as
-- the last
abbrev pub moved : Clock → (now : ℕ) → Clock
moved clock now = record clock { latest = max clock.latest (min now last_moment) }

-- the wall clock shows this number
abbrev pub shown : Clock → (number : ℕ) → Clock
shown clock number = record clock { wall = number; wall_at = clock.latest }

abbrev pub clock_after : Clock → LogEntry → Clock
clock_after clock (Came now (WallIs number)) = shown (moved clock now) number
clock_after clock (Came now event) = moved clock now
clock_after clock (Went now action) = clock

-- the time of what passes, in microseconds since 1970-01-01 UTC, which 64 bits hold
abbrev pub micros_of : Clock → ℕ
micros_of clock =
    min (min (clock.wall + (clock.latest - clock.wall_at)) (2 ^ 64 - 1) * 1000) (2 ^ 64 - 1)
