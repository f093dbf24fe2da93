-- The line's side of a gateway: its primary station, commands, and what is counted; and what each
-- thing that happens makes of them (IEC 60870-5-101, 7.2.3; when own answers are kept is this
-- gateway's own profile).
use Rattle.std.specs.Prelude.{ℕ, Bool, true, false, not, ◌&&◌, if◌then◌else◌, List, [], ◌∷◌}
use Rattle.std.specs.Prelude.{Option, Some, None}
use Rattle.ft12.specs.Fronts.{front_of}
use Rattle.asdu.specs.declared.sizes.Sizes.{Sizes}
use Rattle.asdu.specs.Asdu.{AsduValue}
use Rattle.apci.specs.declared.apdu.Apdu.{Apdu}
use Rattle.apci.specs.declared.apdu.Apdu.TheVariants.{I}
use Rattle.link.specs.Procedure.{is_held}
use Rattle.link.specs.Turns.{CommandsWaiting, station_at}
use Rattle.link.specs.Exchanges.{Sending}
use Rattle.link.specs.declared.outcome.Outcome.{Outcome}
use Rattle.link.specs.declared.outcome.Outcome.TheVariants as outcome
use Rattle.link.specs.Primary as primary
use Rattle.link.specs.Primary.{Primary, received, received_outcome, timed_out, due_outcome}
use Rattle.link.specs.Primary.{is_command, sending}
use Rattle.command.specs.State as tasks
use Rattle.command.specs.State.{has_answer_place, line_of, refusal_of, is_used, octets_waiting}
use Rattle.command.specs.Judging as judging
use Rattle.command.specs.Mirrors as mirrors
use Rattle.gateway.specs.declared.counts.Tally.{Tally}
use Rattle.gateway.specs.declared.gaps.Gap.{Gap}
use Rattle.gateway.specs.Counting.{nothing_counted, counted, one_mirrored, one_lost}
use Rattle.gateway.specs.Reports.{Setup}

pub record Serial : Type 0 where
  -- the line's primary station
  pub line : Primary
  -- commands on their way, and own answers that wait
  pub commands : tasks.State
  pub counts : Tally
  -- the station whose link this step's silence took down: its command is given up once the event is
  -- taken
  pub silent : Option ℕ
  -- the gap of the session that the event's octets have ended, which is reported before the step's
  -- request
  pub gap : Option Gap

abbrev pub first_serial : Setup → Serial
first_serial p = record {
  line = primary.start p.link p.addresses;
  commands = tasks.new_state p.stations p.sizes p.select_ms p.max_age_ms;
  counts = nothing_counted;
  silent = None;
  gap = None;
}

-- Own answers

-- Answers are kept, one after another, up to the first that finds no place.
abbrev pub kept_until : List (List ℕ) → tasks.State → tasks.State
kept_until [] s = s
kept_until (x ∷ xs) s =
    if has_answer_place s then kept_until xs (tasks.offered x s) else tasks.offered x s

-- each finds a place
abbrev pub all_kept : List (List ℕ) → tasks.State → Bool
all_kept [] s = true
all_kept (x ∷ xs) s = has_answer_place s && all_kept xs (tasks.offered x s)

abbrev pub listed : Option (List ℕ) → List (List ℕ)
listed None = []
listed (Some x) = x ∷ []

-- What came of an exchange

-- a command was accepted
abbrev pub accepted : (station : ℕ) → Serial → Serial
accepted station s = record s { commands = tasks.accepted station s.commands }

-- a command that stands on a station's line counts as lost
abbrev pub loss_counted : (station : ℕ) → Serial → Tally
loss_counted station s =
    if is_used (line_of station s.commands) then one_lost s.counts else s.counts

-- what stood on a station's line is given up
abbrev pub given_up : (station : ℕ) → Serial → Serial
given_up station s = record s {
  commands = tasks.given_up station s.commands;
  counts = loss_counted station s;
}

-- the answer to what stands on a station's line, if the station is busy
abbrev pub refusals : (station : ℕ) → Serial → List (List ℕ)
refusals station s = listed (refusal_of (line_of station s.commands))

-- a station was busy: its command is answered
abbrev pub refused : (station : ℕ) → Serial → Serial
refused station s =
    record s { commands = kept_until (refusals station s) (tasks.given_up station s.commands) }

abbrev pub refusal_fits : (station : ℕ) → Serial → Bool
refusal_fits station s = all_kept (refusals station s) (tasks.given_up station s.commands)

-- A station's answer to a command, and what it does to selections. If data transfer runs it is
-- passed on as own answers, these pieces. Else it is counted.
abbrev pub mirrored : (at : ℕ) → (is_transferring : Bool) → AsduValue → (pieces : List (List ℕ)) →
    Serial → Serial
mirrored at true v pieces s =
    record s { commands = kept_until pieces (mirrors.mirrored v at s.commands) }
mirrored at false v pieces s =
    record s { commands = mirrors.mirrored v at s.commands; counts = one_mirrored s.counts }

-- each piece finds a place
abbrev pub mirror_fits : (at : ℕ) → (is_transferring : Bool) → AsduValue →
    (pieces : List (List ℕ)) → Serial → Bool
mirror_fits at true v pieces s = all_kept pieces (mirrors.mirrored v at s.commands)
mirror_fits at false v pieces s = true

-- a session ended with a gap
abbrev pub with_gap : (station session : ℕ) → Serial → Serial
with_gap station session s =
    record s { gap = Some (record { station = station; session = session }) }

-- its gap is reported
abbrev pub without_gap : Serial → Serial
without_gap s = record s { gap = None }

-- any other report is counted if it isn't passed on
abbrev pub reported : Sizes → (report : List ℕ) → Serial → Serial
reported sizes report s = record s { counts = counted sizes report s.counts }

-- A frame that came, and one that goes out

-- The ASDU of a frame is judged, at a moment at which the wall clock shows this, if that is known.
-- Its answer, if it has one, is kept.
abbrev pub received_commands : Apdu → (at : ℕ) → (wall : Option ℕ) → tasks.State → tasks.State
received_commands (I ns nr asdu) at wall s =
    let judgement = judging.judged asdu.items at wall s in
    kept_until (listed judgement.0) judgement.1
received_commands frame at wall s = s

-- the answer finds a place
abbrev pub has_place : Apdu → (at : ℕ) → (wall : Option ℕ) → tasks.State → Bool
has_place (I ns nr asdu) at wall s =
    let judgement = judging.judged asdu.items at wall s in
    all_kept (listed judgement.0) judgement.1
has_place frame at wall s = true

abbrev pub judged : Apdu → (at : ℕ) → (wall : Option ℕ) → Serial → Serial
judged frame at wall s = record s { commands = received_commands frame at wall s.commands }

-- the oldest own answer has gone out
abbrev pub answered : Serial → Serial
answered s = record s { commands = tasks.answered s.commands }

-- commands that were never put on the line, selections and own answers are gone
abbrev pub cut : Serial → Serial
cut s = record s { commands = tasks.closed s.commands }

-- A step: its event's octets, its moment, its timers, its request

abbrev pub arrived : (octets : List ℕ) → Serial → Serial
arrived octets s = record s { line = received (front_of s.line.settings.size) s.line octets }

abbrev pub answer_outcome : (octets : List ℕ) → Serial → Outcome
answer_outcome octets s = received_outcome (front_of s.line.settings.size) s.line octets

-- the station that is down
abbrev pub silent_by : Outcome → Option ℕ
silent_by (outcome.Down station) = Some station
silent_by other = None

-- the time to answer
abbrev pub timed : (at : ℕ) → Serial → Serial
timed at s = record s { line = timed_out s.line at; silent = silent_by (due_outcome s.line at) }

-- the command of a station that is silent is given up
abbrev pub unless_silent : Option ℕ → Serial → Serial
unless_silent None s = s
unless_silent (Some station) s = given_up station s

-- the timers: the command of a silent station is given up, and selections end
abbrev pub settled : (at : ℕ) → Serial → Serial
settled at s =
    let t : Serial = unless_silent s.silent s in record t {
      commands = tasks.timed at t.commands;
      silent = None;
    }

-- the command that waits for each station, the oldest first
abbrev pub waiting_in : tasks.State → CommandsWaiting
waiting_in s = λ station. octets_waiting station s

-- the request that is next, by whether the queue has room
abbrev pub next_request : (room : Bool) → Serial → Option Sending
next_request room s = sending s.line room (waiting_in s.commands)

-- a command that goes out for the first time
abbrev pub is_first_command : Primary → Sending → Bool
is_first_command q x = is_command x.request && not (is_held (station_at q.stations x.station).link)

-- it waits no more
abbrev pub put_on_line : (is_first : Bool) → (station : ℕ) → tasks.State → tasks.State
put_on_line true station s = tasks.sent station s
put_on_line false station s = s

abbrev pub commands_after : Primary → Option Sending → tasks.State → tasks.State
commands_after q None s = s
commands_after q (Some x) s = put_on_line (is_first_command q x) x.station s

-- the line was asked for its next request, which is this, if there is one
abbrev pub asked : (at : ℕ) → (room : Bool) → Option Sending → Serial → Serial
asked at room next s =
    record s {
      line = primary.asked s.line at room (waiting_in s.commands);
      commands = commands_after s.line next s.commands;
    }
