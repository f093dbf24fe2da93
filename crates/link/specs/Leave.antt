-- Polls wait for leave (this gateway's own profile): a poll is begun only when the caller has room
-- for its report. One that is begun is sent again without leave.
use Rattle.std.specs.Prelude.{◌≡◌, ◌⊎◌, ◌&&◌, ℕ, Bool, true, false, List, Option, Some, None}
use Rattle.link.specs.Answers.{Asked, Status, Reset, Counted}
use Rattle.link.specs.Procedure.{Link, Next, Held}
use Rattle.link.specs.Turns.{StationState, station_at, is_poll}
use Rattle.link.specs.Primary.{Outstanding, Primary, Outcome}
use Rattle.link.specs.declared.outcome.Outcome.TheVariants as outcome

-- a request for data
abbrev pub is_poll_request : Asked → Bool
is_poll_request Status = false
is_poll_request Reset = false
is_poll_request (Counted fcb service) = is_poll service

-- A poll was sent, and isn't answered.
abbrev pub holds_poll : Link → Bool
holds_poll (Held fcb service silence) = is_poll service
holds_poll link = false

abbrev pub is_polling_by : Primary → Option Outstanding → Bool
is_polling_by p (Some o) = is_poll_request o.request
is_polling_by p None = p.again && holds_poll (station_at p.stations p.turn).link

-- The outstanding request is a poll, or an unanswered poll is to be sent again at once.
abbrev pub is_polling : Primary → Bool
is_polling p = is_polling_by p p.outstanding

abbrev pub is_report : Outcome → Bool
is_report (outcome.Report station asdu) = true
is_report other = false

-- Nothing is left to be asked of the station but data, if this command waits for it.
abbrev pub IsLeftToPolls : StationState → Option (List ℕ) → Link → Type 0
IsLeftToPolls s command (Next fcb) = (command ≡ None) ⊎ (s.dfc ≡ true)
IsLeftToPolls s command (Held fcb service silence) = is_poll service ≡ true
IsLeftToPolls s command link = ⊥
