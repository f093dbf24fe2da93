-- How polls go on (this gateway's own profile): behind a command one goes out, and those of class 1
-- go on while ACD is set, until `burst` of them went out.
use Rattle.std.specs.Prelude.{◌≡◌, ℕ, suc, ◌<◌, ◌==◌, ◌&&◌, Bool, true, false, List, [], ◌∷◌}
use Rattle.std.specs.Prelude.{Option}
use Rattle.std.specs.Prelude.{Some, None, if◌then◌else◌}
use Rattle.link.specs.Answers.{Service, Class1, Class2, Command, Asked, Counted}
use Rattle.link.specs.Exchanges.{Sending}
use Rattle.link.specs.Procedure.{Link, is_held, has_repeats}
use Rattle.link.specs.Procedure as procedure
use Rattle.link.specs.Turns.{CommandsWaiting, station_at}
use Rattle.link.specs.Primary.{Outstanding, Primary, sending}
use Rattle.link.specs.Runs.{Call, Next, called}

-- What the latest requests were, repeats of them left aside: new polls of one station, the latest
-- so many of them of class 1; a new command; or another request, or none.
pub data Row : Type 0 where
  Polls : (station many : ℕ) → Row
  Commanded : (station : ℕ) → Row
  Other : Row

-- A new poll of class 1 goes out to the station.
abbrev pub one_more : (station : ℕ) → Row → Row
one_more station (Polls other many) =
    if other == station then Polls station (suc many) else Polls station 1
one_more station row = Polls station 1

-- A service that had no answer in time, and has repeats left, is sent again. A held service without
-- one begins a turn.
abbrev pub row_by_repeat : Row → (has_more : Bool) → (station : ℕ) → Row
row_by_repeat Other has_more station = Other
row_by_repeat (Polls other many) has_more station =
    if has_more && (other == station) then Polls other many else Other
row_by_repeat (Commanded other) has_more station =
    if has_more && (other == station) then Commanded other else Other

abbrev pub row_by_request : (is_repeat has_more : Bool) → (station : ℕ) → Asked → Row → Row
row_by_request true has_more station request row = row_by_repeat row has_more station
row_by_request false has_more station (Counted fcb Class1) row = one_more station row
row_by_request false has_more station (Counted fcb Class2) row = Polls station 0
row_by_request false has_more station (Counted fcb (Command asdu)) row = Commanded station
row_by_request false has_more station request row = Other

abbrev pub row_by : Primary → Option Sending → Row → Row
row_by p None row = Other
row_by p (Some s) row =
    row_by_request (is_held (station_at p.stations s.station).link)
    (has_repeats p.settings (station_at p.stations s.station).link) s.station s.request row

-- Nothing goes out while a request is outstanding.
abbrev pub row_out : Primary → Option Outstanding → (may_poll : Bool) → CommandsWaiting → Row → Row
row_out p (Some o) may_poll waiting row = row
row_out p None may_poll waiting row = row_by p (sending p may_poll waiting) row

abbrev pub row_after : Primary → Call → Row → Row
row_after p (Next now may_poll waiting) row =
    row_out p p.outstanding may_poll waiting row
row_after p call row = row

-- The link is up, and its latest service is answered.
abbrev pub is_answered : Link → Bool
is_answered (procedure.Next fcb) = true
is_answered link = false

-- the poll that ACD asks for: of class 1 if it is set, or else of class 2
abbrev pub poll_by : (acd : Bool) → Service
poll_by acd = if acd then Class1 else Class2

-- this service goes out to the station
abbrev pub IsSent : Primary → (may_poll : Bool) → CommandsWaiting → (station : ℕ) → Service → Type 0
IsSent p may_poll waiting station service =
    (fcb : Bool) × (sending p may_poll waiting ≡ Some (record {
      station = station;
      request = Counted fcb service;
    }))

-- The latest poll of a station was answered with ACD set, at whichever sending, and fewer than
-- `burst` of class 1 went out in a row. Then the next request is one more, if there is leave. If a
-- new command was answered, it is the poll that ACD asks for.
abbrev pub PollsGoOn : Primary → Row → Call → Type 0
PollsGoOn p (Polls station many) (Next now true waiting) =
    p.outstanding ≡ None → is_answered (station_at p.stations station).link ≡ true →
    (station_at p.stations station).acd ≡ true → many < p.settings.burst →
    IsSent p true waiting station Class1
PollsGoOn p (Commanded station) (Next now true waiting) =
    p.outstanding ≡ None → is_answered (station_at p.stations station).link ≡ true →
    IsSent p true waiting station (poll_by (station_at p.stations station).acd)
PollsGoOn p row call = Unit {0}

-- at each of these calls
abbrev pub BurstsGoOn : Primary → Row → List Call → Type 0
BurstsGoOn p row [] = Unit {0}
BurstsGoOn p row (call ∷ calls) =
    PollsGoOn p row call × BurstsGoOn (called p call) (row_after p call row) calls

-- ---- What goes out meanwhile
