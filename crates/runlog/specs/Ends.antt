-- What is logged of the line, of the listener and of the connection (this gateway's own profile).
use Rattle.std.specs.Prelude.{ℕ, ◌-◌, nat_le, bytes_eq, Bool, true, false, List, [], ◌∷◌, Option}
use Rattle.std.specs.Prelude.{Some, None, ◌||◌, if◌then◌else◌}
use Rattle.std.specs.declared.io.ErrorKind.{ErrorKind}
use Rattle.std.specs.declared.net.ip_addr.IpAddr.{IpAddr}
use Rattle.std.specs.Bool.{beq}
use Rattle.session.specs.declared.kinds.Close.{Close}
use Rattle.session.specs.declared.kinds.Close.TheVariants as close
use Rattle.live.specs.declared.ends.CutCause.{CutCause}
use Rattle.live.specs.declared.ends.RefusedPeers.{RefusedPeers}
use Rattle.live.specs.declared.ends.Presence.{Presence}
use Rattle.live.specs.declared.ends.Presence.TheVariants as presence
use Rattle.live.specs.declared.ends.Presence.TheVariants.{Untried, Away}
use Rattle.runlog.specs.Causes.{is_news}
use Rattle.runlog.specs.Limits.{asked, is_free, is_minute_after, none_left, one_more}
use Rattle.runlog.specs.declared.limit.LeftOut.{LeftOut}
use Rattle.runlog.specs.declared.limit.Limit.{Limit}
use Rattle.runlog.specs.declared.note.LogLine.{LogLine}
use Rattle.runlog.specs.declared.note.Note.{Note}
use Rattle.runlog.specs.declared.note.Note.TheVariants as note
use Rattle.runlog.specs.declared.ends.LineLogged.{LineLogged}
use Rattle.runlog.specs.declared.ends.LineLogged.TheVariants.{Nothing, NotThere, There, Lost}
use Rattle.runlog.specs.declared.ends.LineWatch.{LineWatch}
use Rattle.runlog.specs.declared.ends.ListenerWatch.{ListenerWatch}
use Rattle.runlog.specs.declared.ends.ConnectionWatch.{ConnectionWatch}
use Rattle.runlog.specs.declared.ends.OpenConnection.{OpenConnection}

abbrev pub new_limit : Limit
new_limit = record { logged = None; left_out = none_left }

abbrev pub line_by : Note → ℕ → Option LeftOut → Option LogLine
line_by what now None = None
line_by what now (Some left_out) = Some (record { moment = now; note = what; left_out = left_out })

-- something happened: a line, or it is counted as left out
abbrev pub happened : Note → Limit → ℕ → Limit × Option LogLine
happened what limit now = ((asked limit now).0, line_by what now (asked limit now).1)

-- something is in another state: a line, or it is logged once a second has passed
abbrev pub changed : Note → Limit → ℕ → Limit × Option LogLine
changed what limit now = if is_free limit now then happened what limit now else (limit, None)

-- The line

abbrev pub new_line : LineWatch
new_line = record {
  logged = Nothing;
  there = new_limit;
  away = new_limit;
  is_receiving = false;
  presence = Untried;
  since = 0;
  told = None;
}

-- A line is logged once it was tried. That it isn't there, or silent, is due again each minute, and
-- for another cause. One that was lost is there again once it has given octets, or is there for a
-- minute.
abbrev pub line_change : LineLogged → Presence → (is_due : Bool) → Option (LineLogged × Note)
line_change logged Untried is_due = None
line_change Nothing (Away cause) is_due = Some (NotThere, note.LineNotThere cause)
line_change NotThere (Away cause) true = Some (NotThere, note.LineNotThere cause)
line_change NotThere (Away cause) false = None
line_change There (Away cause) is_due = Some (Lost, note.LineLost cause)
line_change Lost (Away cause) true = Some (Lost, note.LineNotThere cause)
line_change Lost (Away cause) false = None
line_change Lost presence.Silent false = None
line_change logged presence.Silent is_due = Some (Lost, note.LineSilent)
line_change There presence is_due = None
line_change Lost presence.Receiving is_due = Some (There, note.LineReachedAgain)
line_change Lost presence.There true = Some (There, note.LineReachedAgain)
line_change Lost presence.There false = None
line_change logged presence is_due = Some (There, note.LineReached)

-- why a line that is seen so isn't there, if that is known
abbrev pub cause_of : Presence → Option ErrorKind
cause_of (Away cause) = cause
cause_of presence = None

-- it was logged, or not yet
abbrev pub line_logged : LineLogged → Option LogLine → LineWatch → LineWatch × Option LogLine
line_logged logged None w = (w, None)
line_logged logged (Some line) w =
    (record w { logged = logged; told = cause_of w.presence }, Some line)

-- it was reached, or fell silent, as far as that was logged
abbrev pub was_there : LineLogged → Bool
was_there There = true
was_there Lost = true
was_there logged = false

abbrev pub is_away : Presence → Bool
is_away (Away cause) = true
is_away presence.Silent = true
is_away presence = false

abbrev pub line_tried : (is_away : Bool) → ℕ → LineLogged → Note → LineWatch
    → LineWatch × Option LogLine
line_tried true now logged what w = line_logged logged (changed what w.away now).1
    (record w { away = (changed what w.away now).0 })
line_tried false now logged what w = line_logged logged (changed what w.there now).1
    (record w { there = (changed what w.there now).0 })

abbrev pub line_changed : Option (LineLogged × Note) → (is_away : Bool) → ℕ → LineWatch
    → LineWatch × Option LogLine
line_changed None is_away now w = (w, None)
line_changed (Some (logged, what)) is_away now w = line_tried is_away now logged what w

-- A line that is there, and from which nothing has come, was away if octets had come before.
abbrev pub seen_as : (was_receiving : Bool) → Presence → Presence
seen_as true presence.There = Away None
seen_as was_receiving presence = presence

abbrev pub is_receiving : Presence → Bool
is_receiving presence.Receiving = true
is_receiving presence = false

abbrev pub is_there : Presence → Bool
is_there presence.There = true
is_there presence.Receiving = true
is_there presence = false

-- how it is seen, and since when it is there or not
abbrev pub presence_noted : Presence → ℕ → LineWatch → LineWatch
presence_noted presence now w = record w {
  is_receiving = is_receiving presence;
  presence = presence;
  since = if beq (is_there presence) (is_there w.presence) then w.since else now;
}

-- that it isn't there is to be logged again: a minute has passed, or the cause is another one
abbrev pub is_line_due : Presence → ℕ → LineWatch → Bool
is_line_due presence now w =
    is_minute_after w.away.logged now || is_news (cause_of presence) w.told

abbrev pub line_seen_so : Presence → ℕ → LineWatch → LineWatch × Option LogLine
line_seen_so presence now w =
    line_changed (line_change w.logged presence (is_line_due presence now w)) (is_away presence) now
    (presence_noted presence now w)

abbrev pub line_seen : Presence → ℕ → LineWatch → LineWatch × Option LogLine
line_seen presence now w = line_seen_so (seen_as w.is_receiving presence) now w

-- Those who are refused

abbrev pub new_listener : ListenerWatch
new_listener = record { logged = 0; limit = new_limit }

abbrev pub listener_logged : ℕ → Option LogLine → ListenerWatch → ListenerWatch × Option LogLine
listener_logged count None w = (w, None)
listener_logged count (Some line) w = (record w { logged = count }, Some line)

-- a line says how many came since the one before
abbrev pub listener_tried : RefusedPeers → ℕ → ListenerWatch → ListenerWatch × Option LogLine
listener_tried s now w =
    let logged = changed (note.RefusedPeers (s.count - w.logged) s.last) w.limit now in
    listener_logged s.count logged.1 (record w { limit = logged.0 })

abbrev pub listener_seen : RefusedPeers → ℕ → ListenerWatch → ListenerWatch × Option LogLine
listener_seen s now w = if nat_le s.count w.logged then (w, None) else listener_tried s now w

-- The connection

abbrev pub new_connection : ConnectionWatch
new_connection = record {
  count = 0;
  peer = None;
  opening = None;
  opened = new_limit;
  started = new_limit;
  stopped = new_limit;
  cut = new_limit;
  closed = new_limit;
}

abbrev pub connection_opened : Option IpAddr → ℕ → ConnectionWatch → ConnectionWatch
    × Option LogLine
connection_opened peer now w =
    let logged = happened (note.Opened peer) w.opened now in (
      record w {
        count = one_more w.count;
        peer = peer;
        opening = Some (record { since = now; is_started = false });
        opened = logged.0;
      },
      logged.1,
    )

abbrev pub connection_cut : CutCause → ℕ → ConnectionWatch → ConnectionWatch × Option LogLine
connection_cut cause now w = let logged = happened (note.Cut cause) w.cut now in
    (record w { opening = None; cut = logged.0 }, logged.1)

-- the one in whose place another comes is closed after that is opened
abbrev pub open_after : Close → Option OpenConnection → Option OpenConnection
open_after close.Replaced opening = opening
open_after cause opening = None

abbrev pub connection_closed : Close → ℕ → ConnectionWatch → ConnectionWatch × Option LogLine
connection_closed cause now w = let logged = happened (note.Closed cause) w.closed now in
    (record w { opening = open_after cause w.opening; closed = logged.0 }, logged.1)

-- STARTDT con and STOPDT con, as they go out (IEC 60870-5-104, 5.1)
abbrev pub start_confirmed : List ℕ
start_confirmed = 104 ∷ 4 ∷ 11 ∷ 0 ∷ 0 ∷ 0 ∷ []

abbrev pub stop_confirmed : List ℕ
stop_confirmed = 104 ∷ 4 ∷ 35 ∷ 0 ∷ 0 ∷ 0 ∷ []

abbrev pub started_so : (is_started : Bool) → Option OpenConnection → Option OpenConnection
started_so is_started None = None
started_so is_started (Some opening) =
    Some (record { since = opening.since; is_started = is_started })

-- data transfer is started, or stopped, if one is open
abbrev pub transfer_noted : (is_started : Bool) → ConnectionWatch → ConnectionWatch
transfer_noted is_started w = record w { opening = started_so is_started w.opening }

abbrev pub connection_started : ℕ → ConnectionWatch → ConnectionWatch × Option LogLine
connection_started now w = let logged = happened note.Started w.started now in
    (record (transfer_noted true w) { started = logged.0 }, logged.1)

abbrev pub connection_stopped : ℕ → ConnectionWatch → ConnectionWatch × Option LogLine
connection_stopped now w = let logged = happened note.Stopped w.stopped now in
    (record (transfer_noted false w) { stopped = logged.0 }, logged.1)

abbrev pub connection_sent : List ℕ → ℕ → ConnectionWatch → ConnectionWatch × Option LogLine
connection_sent octets now w =
    if bytes_eq octets start_confirmed then connection_started now w else
    if bytes_eq octets stop_confirmed then connection_stopped now w else (w, None)
