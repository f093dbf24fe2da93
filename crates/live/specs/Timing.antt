-- What moment an event bears (this gateway's own profile). By IEC 60870-5-101 an exchange is
-- unanswered if no answer has come for so long after its request. That is time that the line had,
-- not time for which the gateway itself stood still. So the end of an exchange waits until the line
-- has been looked at that long after the request was written.
use Rattle.std.specs.Prelude.{ℕ, ◌+◌, ◌-◌, nat_le, nat_lt, Bool, true, false, not, List, ◌∷◌}
use Rattle.std.specs.Prelude.{Option, Some, None, if◌then◌else◌}
use Rattle.live.specs.declared.timing.Timing.{Timing}
use Rattle.live.specs.declared.timing.WrittenRequest.{WrittenRequest}

-- the moments that a clock has given, the newest first, if it notes them
abbrev pub Moments : Type 0
Moments = Option (List ℕ)

abbrev pub read_at : Moments → ℕ → Moments
read_at None now = None
read_at (Some before) now = Some (now ∷ before)

-- the line has been looked at for answer_ms since the request was written: a look began that late
abbrev pub is_waited_out : Timing → WrittenRequest → Bool
is_waited_out t r = nat_le t.answer_ms (t.looked - r.written)

-- an answer to the request, if one was written, may still come in its time
abbrev pub is_awaited_by : Timing → Option WrittenRequest → Bool
is_awaited_by t None = false
is_awaited_by t (Some r) = not (is_waited_out t r)

abbrev pub is_awaited : Timing → Bool
is_awaited t = is_awaited_by t t.request

-- less than answer_ms have passed since the request's moment
abbrev pub goes_on : Timing → WrittenRequest → ℕ → Bool
goes_on t r now = nat_lt (now - r.moment) t.answer_ms

-- the last moment at which its exchange goes on
abbrev pub eve : Timing → WrittenRequest → ℕ
eve t r = r.moment + (t.answer_ms - 1)

-- That of the clock, but while the line hasn't been waited out no later than the eve of the
-- exchange's end.
abbrev pub moment_by : Timing → Option WrittenRequest → ℕ → ℕ
moment_by t None now = now
moment_by t (Some r) now =
    if is_waited_out t r then now else (if goes_on t r now then now else eve t r)

abbrev pub moment_at : Timing → ℕ → ℕ
moment_at t now = moment_by t t.request now

-- that moment is more than 50 ms behind the clock
abbrev pub is_behind : Timing → ℕ → Bool
is_behind t now = nat_lt 50 (now - moment_at t now)

-- The moment that is told. Behind octets that end as a line frame does no answer is to come, so
-- that such a moment is not behind the clock.
abbrev pub told_at : Timing → (ends_frame : Bool) → ℕ → ℕ
told_at t true now = if is_behind t now then now else moment_at t now
told_at t false now = moment_at t now

-- a look at the line, which began then
abbrev pub line_looked_at : ℕ → Timing → Timing
line_looked_at begun t = record t { looked = begun }

-- a request of this moment, written then
abbrev pub asked_at : ℕ → ℕ → Timing → Timing
asked_at moment written t =
    record t { request = Some (record { moment = moment; written = written }) }
