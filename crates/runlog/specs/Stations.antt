-- What is logged of the stations, by the requests that go out to them (IEC 60870-5-2; the lines are
-- this gateway's own profile).
use Rattle.std.specs.Prelude.{ℕ, ◌+◌, ◌*◌, ◌==◌, ◌&&◌, nat_lt, Bool, true, false, not, List, []}
use Rattle.std.specs.Prelude.{◌∷◌, map}
use Rattle.std.specs.Prelude.{slice_get, Option, Some, None, is_none, is_some, if◌then◌else◌}
use Rattle.std.specs.Bool.{beq}
use Rattle.ft12.specs.declared.frame.LinkSize.{LinkSize}
use Rattle.ft12.specs.declared.frame.LinkSize.TheVariants.{One, Two}
use Rattle.link.specs.Control.{is_primary, fcb_bit, fcv_bit, function_code, primary_code}
use Rattle.link.specs.declared.control.PrimaryFunction.TheVariants.{LinkStatus, ResetLink}
use Rattle.runlog.specs.Ends.{changed, happened, new_limit}
use Rattle.runlog.specs.Limits.{one_more, is_minute_after}
use Rattle.runlog.specs.Orders.{octet}
use Rattle.runlog.specs.declared.note.LogLine.{LogLine}
use Rattle.runlog.specs.declared.note.Note.TheVariants as note
use Rattle.runlog.specs.declared.stations.Asking.{Asking}
use Rattle.runlog.specs.declared.stations.Asking.TheVariants.{Status, Reset, Counted, Other, Missed}
use Rattle.runlog.specs.declared.stations.StationStanding.{StationStanding}
use Rattle.runlog.specs.declared.stations.StationStanding.TheVariants as standing
use Rattle.runlog.specs.declared.stations.LinkKnown.{LinkKnown}
use Rattle.runlog.specs.declared.stations.LinkKnown.TheVariants as known
use Rattle.runlog.specs.declared.stations.StationLogged.{StationLogged}
use Rattle.runlog.specs.declared.stations.StationLogged.TheVariants.{Nothing, Asked, Up, Silent}
use Rattle.runlog.specs.declared.stations.StationLogged.TheVariants.{Down, Unanswered}
use Rattle.runlog.specs.declared.stations.RequestCounts.{RequestCounts}
use Rattle.runlog.specs.declared.stations.StationWatch.{StationWatch}

-- A request begins with 10, and its control octet follows, or with 68, two lengths and 68 (IEC
-- 60870-5-1, FT1.2). The link address stands behind the control octet, its low octet first.
abbrev pub control_place : List ℕ → ℕ
control_place octets = if octet octets 0 == 16 then 1 else 4

abbrev pub address_of : LinkSize → List ℕ → ℕ
address_of One octets = octet octets (control_place octets + 1)
address_of Two octets =
    octet octets (control_place octets + 1) + 256 * octet octets (control_place octets + 2)

-- By the control octet: a request whose FCV is set is counted, by its FCB; one without it may ask
-- for the status of the link, or for its reset. A secondary station's octet is no request.
abbrev pub asking_by : (control : ℕ) → Asking
asking_by control =
    if not (is_primary control) then Other
    else if fcv_bit control then Counted (fcb_bit control)
    else if function_code control == primary_code LinkStatus then Status
    else if function_code control == primary_code ResetLink then Reset else Other

abbrev pub asking_of : List ℕ → Asking
asking_of octets = asking_by (octet octets (control_place octets))

abbrev pub new_station : (tries : ℕ) → ℕ → StationWatch
new_station tries address = record {
  address = address;
  tries = tries;
  bit = None;
  sent = 0;
  served = None;
  link = known.Nothing;
  since = 0;
  gaps = 0;
  requests = record { sent = 0; repeats = 0; unanswered = 0 };
  logged = Nothing;
  asked = new_limit;
  up = new_limit;
  silent = new_limit;
  again = new_limit;
  down = new_limit;
  gap = new_limit;
}

abbrev pub station_logged : StationLogged → Option LogLine → StationWatch → StationWatch
    × Option LogLine
station_logged logged None w = (w, None)
station_logged logged (Some line) w = (record w { logged = logged }, Some line)

abbrev pub logged_asked : ℕ → StationWatch → StationWatch × Option LogLine
logged_asked now w = let logged = changed (note.Asked w.address) w.asked now in
    station_logged Asked logged.1 (record w { asked = logged.0 })

abbrev pub logged_up : ℕ → StationWatch → StationWatch × Option LogLine
logged_up now w = let logged = changed (note.Up w.address) w.up now in
    station_logged Up logged.1 (record w { up = logged.0 })

abbrev pub logged_down : ℕ → StationWatch → StationWatch × Option LogLine
logged_down now w = let logged = changed (note.Down w.address) w.down now in
    station_logged Down logged.1 (record w { down = logged.0 })

abbrev pub logged_silent : StationLogged → ℕ → StationWatch → StationWatch × Option LogLine
logged_silent next now w = let logged = changed (note.Silent w.address) w.silent now in
    station_logged next logged.1 (record w { silent = logged.0 })

-- its link is held, and it may have been restarted
abbrev pub logged_still : StationLogged → ℕ → StationWatch → StationWatch × Option LogLine
logged_still next now w = let logged = changed (note.StillSilent w.address) w.silent now in
    station_logged next logged.1 (record w { silent = logged.0 })

abbrev pub logged_again : ℕ → StationWatch → StationWatch × Option LogLine
logged_again now w = let logged = changed (note.Again w.address) w.again now in
    station_logged Up logged.1 (record w { again = logged.0 })

abbrev pub logged_missed : ℕ → StationWatch → StationWatch × Option LogLine
logged_missed now w = let logged = happened (note.Gap w.address) w.gap now in
    (record w { gap = logged.0 }, logged.1)

-- this bit again
abbrev pub is_again : Option Bool → Bool → Bool
is_again None bit = false
is_again (Some before) bit = beq before bit

-- another bit than this
abbrev pub is_other : Option Bool → Bool → Bool
is_other None bit = false
is_other (Some before) bit = not (beq before bit)

-- it has gone out already: it is counted, with the bit of the one before
abbrev pub is_repeat : Asking → StationWatch → Bool
is_repeat (Counted bit) w = is_again w.bit bit
is_repeat asking w = false

-- A link that was up is down once its status is asked.
abbrev pub link_asked : LinkKnown → LinkKnown
link_asked known.Nothing = known.Nothing
link_asked known.Up = known.Down
link_asked known.Down = known.Down

-- A counted request with the bit of the one before is that request again (IEC 60870-5-2, 5.1.2).
-- One with the other bit follows an answer. Requests for the status are counted from the last
-- counted request on: a station that answers them has its link reset, and then gets counted
-- requests. A reset behind a counted request says that the link went down.
abbrev pub counting : Asking → StationWatch → StationWatch
counting (Counted bit) w =
    record w {
      bit = Some bit;
      sent = if is_again w.bit bit then one_more w.sent else 1;
      served = Some bit;
      link = if is_other w.served bit then known.Up else w.link;
    }
counting Status w =
    record w {
      bit = None;
      sent = if is_none w.bit then one_more w.sent else 1;
      link = link_asked w.link;
    }
counting Reset w =
    record w { served = None; link = if is_some w.served then known.Down else w.link }
counting Other w = w
counting Missed w = record w { gaps = one_more w.gaps }

-- a request went out more often than a station that is there lets it
abbrev pub is_unanswered : StationWatch → Bool
is_unanswered w = nat_lt w.tries w.sent

abbrev pub standing_by : LinkKnown → StationStanding
standing_by known.Nothing = standing.Asked
standing_by known.Up = standing.Up
standing_by known.Down = standing.Down

-- How a station stands.
abbrev pub standing_of : StationWatch → StationStanding
standing_of w =
    if w.sent == 0 then standing.NotAsked
    else if is_unanswered w then standing.Silent else standing_by w.link

abbrev pub is_same : StationStanding → StationStanding → Bool
is_same standing.NotAsked standing.NotAsked = true
is_same standing.Asked standing.Asked = true
is_same standing.Up standing.Up = true
is_same standing.Silent standing.Silent = true
is_same standing.Down standing.Down = true
is_same before after = false

-- since when it stands so
abbrev pub since_noted : ℕ → StationWatch → StationWatch → StationWatch
since_noted now old w =
    record w { since = if is_same (standing_of old) (standing_of w) then w.since else now }

abbrev pub more_if : Bool → (count : ℕ) → ℕ
more_if is_so count = if is_so then one_more count else count

abbrev pub is_request : Asking → Bool
is_request Missed = false
is_request asking = true

-- what is counted of requests behind this one: it may be the one before again, and by it the
-- station may begin not to answer
abbrev pub requests_after : Asking → (before : StationWatch) → (is_unanswered : Bool)
    → RequestCounts
requests_after asking before is_so = record {
  sent = more_if (is_request asking) before.requests.sent;
  repeats = more_if (is_repeat asking before) before.requests.repeats;
  unanswered = more_if (is_so && not (is_unanswered before)) before.requests.unanswered;
}

abbrev pub counted : Asking → ℕ → StationWatch → StationWatch
counted asking now w = record (since_noted now w (counting asking w)) {
  requests = requests_after asking w (is_unanswered (counting asking w));
}

-- that it doesn't answer is logged
abbrev pub silent_by : (is_unanswered : Bool) → StationLogged → ℕ → StationWatch
    → StationWatch × Option LogLine
silent_by true next now w = logged_silent next now w
silent_by false next now w = (w, None)

-- and again a minute after it was logged last
abbrev pub still_silent : StationLogged → ℕ → StationWatch → StationWatch × Option LogLine
still_silent next now w = silent_by (is_minute_after w.silent.logged now) next now w

abbrev pub unanswered_by : (is_unanswered : Bool) → ℕ → StationWatch → StationWatch × Option LogLine
unanswered_by true now w = still_silent Unanswered now w
unanswered_by false now w = (w, None)

abbrev pub still_by : (is_minute : Bool) → StationLogged → ℕ → StationWatch
    → StationWatch × Option LogLine
still_by true next now w = logged_still next now w
still_by false next now w = (w, None)

-- and that it answers again, once it has
abbrev pub answers_by : LinkKnown → ℕ → StationWatch → StationWatch × Option LogLine
answers_by known.Up now w = logged_again now w
answers_by link now w = (w, None)

abbrev pub again_by : (is_unanswered : Bool) → LinkKnown → ℕ → StationWatch
    → StationWatch × Option LogLine
again_by true link now w = still_by (is_minute_after w.silent.logged now) Silent now w
again_by false link now w = answers_by link now w

-- it isn't up, and a service of it isn't answered
abbrev pub unserved_by : StationLogged → ℕ → StationWatch → StationWatch × Option LogLine
unserved_by Unanswered now w = still_by (is_minute_after w.silent.logged now) Unanswered now w
unserved_by logged now w = logged_silent Unanswered now w

abbrev pub unserved_if : (is_unanswered : Bool) → ℕ → StationWatch → StationWatch × Option LogLine
unserved_if true now w = unserved_by w.logged now w
unserved_if false now w = (w, None)

-- a service goes out to a station that isn't logged as up: it is up once it has answered one
abbrev pub first_by : LinkKnown → (is_unanswered : Bool) → ℕ → StationWatch
    → StationWatch × Option LogLine
first_by known.Up is_unanswered now w = logged_up now w
first_by link is_unanswered now w = unserved_if is_unanswered now w

-- A station that is asked for its status is logged once, and as down if it was up before. One that
-- doesn't answer is logged, again each minute.
abbrev pub status_by : StationLogged → ℕ → StationWatch → StationWatch × Option LogLine
status_by Nothing now w = logged_asked now w
status_by Asked now w = silent_by (is_unanswered w) Unanswered now w
status_by Down now w = silent_by (is_unanswered w) Unanswered now w
status_by Unanswered now w = unanswered_by (is_unanswered w) now w
status_by Up now w = logged_down now w
status_by Silent now w = logged_down now w

-- One to which a service goes out is logged as up once it has answered one. It is logged if it
-- doesn't answer any more, again each minute, and when it answers again.
abbrev pub service_by : StationLogged → ℕ → StationWatch → StationWatch × Option LogLine
service_by Up now w = silent_by (is_unanswered w) Silent now w
service_by Silent now w = again_by (is_unanswered w) w.link now w
service_by logged now w = first_by w.link (is_unanswered w) now w

-- One whose link is reset behind a service, before it has answered any in the run, is down. (Of one
-- that has answered the status is asked before.)
abbrev pub reset_by : (was is : LinkKnown) → ℕ → StationWatch → StationWatch × Option LogLine
reset_by known.Nothing known.Down now w = logged_down now w
reset_by was is now w = (w, None)

abbrev pub asked_by : Asking → (was : LinkKnown) → ℕ → StationWatch → StationWatch × Option LogLine
asked_by Status was now w = status_by w.logged now w
asked_by Reset was now w = reset_by was w.link now w
asked_by (Counted bit) was now w = service_by w.logged now w
asked_by Missed was now w = logged_missed now w
asked_by Other was now w = (w, None)

abbrev pub station_asked : Asking → ℕ → StationWatch → StationWatch × Option LogLine
station_asked asking now w = asked_by asking w.link now (counted asking now w)

-- the station after a request to this link address, if it is its own
abbrev pub after_request : ℕ → Asking → ℕ → StationWatch → StationWatch
after_request address asking now w =
    if w.address == address then (station_asked asking now w).0 else w

-- what the station with this link address has to log of it
abbrev pub line_in : ℕ → Asking → ℕ → List StationWatch → Option LogLine
line_in address asking now [] = None
line_in address asking now (w ∷ ws) =
    if w.address == address then (station_asked asking now w).1 else line_in address asking now ws

-- this is asked of the station with this link address, or logged of it
abbrev pub asking_logged : ℕ → Asking → ℕ → List StationWatch → List StationWatch × Option LogLine
asking_logged address asking now ws =
    (map (after_request address asking now) ws, line_in address asking now ws)

-- a request goes out to the station whose address it bears
abbrev pub asked : LinkSize → List ℕ → ℕ → List StationWatch → List StationWatch × Option LogLine
asked size octets now ws = asking_logged (address_of size octets) (asking_of octets) now ws

-- reports of the station at this place may be lost
abbrev pub gap_at : Option StationWatch → ℕ → List StationWatch → List StationWatch × Option LogLine
gap_at None now ws = (ws, None)
gap_at (Some w) now ws = asking_logged w.address Missed now ws

abbrev pub gap : (place : ℕ) → ℕ → List StationWatch → List StationWatch × Option LogLine
gap place now ws = gap_at (slice_get ws place) now ws
