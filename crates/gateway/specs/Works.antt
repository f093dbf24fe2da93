-- What the gateway keeps beside the connection: the line's side, and what became of commands. Each
-- entry of the log changes it (IEC 60870-5-101, 7.2.3). What becomes of commands are calls of
-- `command`. Each changes its state and its history alike. Contracts say by `Serial` what these
-- calls change of the line's side.
use Rattle.std.specs.Prelude.{◌≡◌, ℕ, zero, suc, Bool, true, false, if◌then◌else◌, List, []}
use Rattle.std.specs.Prelude.{◌∷◌, length}
use Rattle.std.specs.Prelude.{Option, Some, None}
use Rattle.std.specs.List.{flat_map, AllByRecursion}
use Rattle.asdu.specs.declared.sizes.Sizes.{Sizes}
use Rattle.asdu.specs.Sizes.{tcp}
use Rattle.asdu.specs.Asdu.{AsduValue, IsAsdu}
use Rattle.asdu.specs.InformationObjects.{InformationObject, objects_of}
use Rattle.asdu.specs.Translation.{parts, IsPiece, IsLargest, AllButLast}
use Rattle.apci.specs.declared.apdu.Apdu.{Apdu}
use Rattle.apci.specs.declared.apdu.Apdu.TheVariants.{I}
use Rattle.link.specs.Carried as line
use Rattle.link.specs.Carried.{awaits_command}
use Rattle.link.specs.Exchanges.{Sending}
use Rattle.link.specs.declared.outcome.Outcome.{Outcome}
use Rattle.link.specs.declared.outcome.Outcome.TheVariants as outcome
use Rattle.command.specs.State.{has_answer_place}
use Rattle.command.specs.Judging.{judged}
use Rattle.command.specs.Mirrors as mirrors
use Rattle.command.specs.History.{Offered, Ended, History}
use Rattle.command.specs.Calls.{Call, Judge, PutOnLine, Accept, Busy, Lose, Mirror, Own, SendOwn}
use Rattle.command.specs.Calls.{Cut, Due, Run, after_call}
use Rattle.gateway.specs.Objects.{has_objects}
use Rattle.gateway.specs.declared.counts.Tally.{Tally}
use Rattle.gateway.specs.Counting.{is_answer_type, one_mirrored}
use Rattle.gateway.specs.Reports.{Setup}
use Rattle.gateway.specs.Tags.{AreTagged}
use Rattle.gateway.specs.Serial as serial
use Rattle.gateway.specs.Serial.{Serial, first_serial, loss_counted, refusals, is_first_command}
use Rattle.gateway.specs.Serial.{listed}

pub record Works : Type 0 where
  pub serial : Serial
  -- what became of commands, the newest first
  pub history : History
  -- the step's timers and its request are still due
  pub is_due : Bool

abbrev pub first_works : Setup → Works
first_works p = record { serial = first_serial p; history = []; is_due = false }

-- how commands stand
abbrev pub tasks_of : Works → Run
tasks_of w = record { state = w.serial.commands; history = w.history }

-- commands stand so
abbrev pub with_tasks : Run → Works → Works
with_tasks r w =
    record w { serial = record w.serial { commands = r.state }; history = r.history }

-- a call of `command` changes its state and its history
abbrev pub called : Call → Works → Works
called call w = with_tasks (after_call call (tasks_of w)) w

-- this much is counted
abbrev pub with_counts : Tally → Works → Works
with_counts t w = record w { serial = record w.serial { counts = t } }

-- Own answers

-- answers are kept, one after another, up to the first that finds no place
abbrev pub kept_own : List (List ℕ) → Run → Run
kept_own [] r = r
kept_own (x ∷ xs) r =
    if has_answer_place r.state then kept_own xs (after_call (Own x) r) else after_call (Own x) r

abbrev pub kept_works : List (List ℕ) → Works → Works
kept_works xs w = with_tasks (kept_own xs (tasks_of w)) w

-- an own answer of the open connection found no place
abbrev pub has_lacked_place : History → Bool
has_lacked_place [] = false
has_lacked_place (Offered octets false ∷ h) = true
has_lacked_place (Ended ∷ h) = false
has_lacked_place (entry ∷ h) = has_lacked_place h

-- What came of an exchange

-- by its first object: it is an answer to a command
abbrev pub is_command_by : List InformationObject → Bool
is_command_by [] = false
is_command_by (o ∷ objects) = is_answer_type o.kind

abbrev pub is_command_report : Sizes → List ℕ → Bool
is_command_report sizes report = is_command_by (objects_of sizes report)

-- The pieces carry the report's objects to the connection, as many in each but the last as it
-- takes.
pub record IsPassedOn (sizes : Sizes) (v : AsduValue) (report : List ℕ)
    (pieces : List (List ℕ)) : Type 0 where
  pub value : IsAsdu sizes v report
  pub joined : flat_map (λ piece. objects_of tcp piece) pieces ≡ objects_of sizes report
  pub each : AllByRecursion (λ piece. IsPiece v piece) pieces
  pub full : AllButLast (λ piece. IsLargest v piece) pieces
  pub number : length pieces ≡ parts sizes report

-- A station's answer to a command. If data transfer runs, these pieces are kept as own answers.
-- Else it is counted.
abbrev pub mirrored_works : (at : ℕ) → (is_transferring : Bool) → AsduValue →
    (pieces : List (List ℕ)) → Works → Works
mirrored_works at true v pieces w = kept_works pieces (called (Mirror v at) w)
mirrored_works at false v pieces w =
    with_counts (one_mirrored w.serial.counts) (called (Mirror v at) w)

abbrev pub LearnsReport : Setup → (at : ℕ) → (is_transferring is_of_command : Bool) → List ℕ →
    (before after : Works) → Type 0
LearnsReport p at is_transferring true report w z =
    (v : AsduValue) × (plain : List (List ℕ)) × (pieces : List (List ℕ))
    × IsPassedOn p.sizes v report plain
    × AreTagged (mirrors.tag_for v v.infos w.serial.commands) plain pieces
    × (z ≡ mirrored_works at is_transferring v pieces w)
LearnsReport p at is_transferring false report w z = z
    ≡ record w { serial = serial.reported p.sizes report w.serial }

-- a station accepted its command
abbrev pub accepted_works : (station : ℕ) → Works → Works
accepted_works station w = called (Accept station) w

-- the command on a station's line is given up, and counts as lost
abbrev pub given_up_works : (station : ℕ) → Works → Works
given_up_works station w = with_counts (loss_counted station w.serial) (called (Lose station) w)

-- a busy station's command is answered
abbrev pub refused_works : (station : ℕ) → Works → Works
refused_works station w = kept_works (refusals station w.serial) (called (Busy station) w)

abbrev pub LearnsOf : Setup → (at : ℕ) → (is_transferring : Bool) → Outcome →
    (before after : Works) → Type 0
LearnsOf p at is_transferring (outcome.Report station asdu) w z =
    LearnsReport p at is_transferring (is_command_report p.sizes asdu.items) asdu.items w z
LearnsOf p at is_transferring (outcome.Accepted station) w z = z ≡ accepted_works station w
LearnsOf p at is_transferring (outcome.Busy station) w z = z ≡ refused_works station w
LearnsOf p at is_transferring (outcome.Down station) w z = z ≡ given_up_works station w
LearnsOf p at is_transferring (outcome.StartedGap station session) w z = z
    ≡ record w { serial = serial.with_gap station session w.serial }
LearnsOf p at is_transferring other w z = z ≡ w

-- A frame that came, and one that goes out

-- the ASDU of a frame is judged, and its answer, if it has one, is kept
abbrev pub judged_tasks : Apdu → (now : ℕ) → (wall : Option ℕ) → Run → Run
judged_tasks (I ns nr asdu) now wall r =
    kept_own (listed (judged asdu.items now wall r.state).0)
    (after_call (Judge asdu.items now wall) r)
judged_tasks frame now wall r = r

abbrev pub received_works : Apdu → (now : ℕ) → (wall : Option ℕ) → Works → Works
received_works frame now wall w = with_tasks (judged_tasks frame now wall (tasks_of w)) w

-- an own answer has gone out
abbrev pub answered_works : Works → Works
answered_works w = called SendOwn w

abbrev pub sent_works : Apdu → Works → Works
sent_works (I ns nr asdu) w = if has_objects asdu.items then w else answered_works w
sent_works frame w = w

-- The end of a connection

-- what was never put on the line is gone
abbrev pub cut_works : Works → Works
cut_works w = called Cut w

-- A restart, which then ends the connection

-- the link to a station is given up, and the command that stood on its line is lost
abbrev pub link_given_up_works : (station : ℕ) → Works → Works
link_given_up_works station w =
    given_up_works station (record w {
      serial = record w.serial { line = line.given_up station w.serial.line };
    })

-- a station whose latest service is a command without an answer is given up
abbrev pub command_given_up_works : (station : ℕ) → Works → Works
command_given_up_works station w =
    if awaits_command w.serial.line station then link_given_up_works station w else w

-- the same for so many stations, from the first on
abbrev pub commands_given_up_works_upto : (count : ℕ) → Works → Works
commands_given_up_works_upto zero w = w
commands_given_up_works_upto (suc k) w =
    command_given_up_works k (commands_given_up_works_upto k w)

-- of no station is it known whether it was restarted, too
abbrev pub doubted_works : Works → Works
doubted_works w =
    record w { serial = record w.serial { line = line.doubted w.serial.line } }

-- for all stations
abbrev pub restarted_works : Works → Works
restarted_works w =
    doubted_works (commands_given_up_works_upto (length w.serial.line.stations) w)

-- A step: its event, its timers, its request

-- the octets of the line's event, before what came of them is learnt
abbrev pub octets_works : (octets : List ℕ) → Works → Works
octets_works octets w = record w { serial = serial.arrived octets w.serial }

-- an event's moment has come
abbrev pub begun_works : (at : ℕ) → Works → Works
begun_works at w = record w { serial = serial.timed at w.serial; is_due = true }

-- the command of the station that is silent, if one is, is given up
abbrev pub unless_silent_works : Option ℕ → Works → Works
unless_silent_works None w = w
unless_silent_works (Some station) w = given_up_works station w

-- the timers: a silent station's command is given up, and selections end
abbrev pub settled_works : (at : ℕ) → Works → Works
settled_works at w =
    let z : Works = called (Due at) (unless_silent_works w.serial.silent w) in
    record z { serial = record z.serial { silent = None } }

-- the gap is reported
abbrev pub gapless_works : Works → Works
gapless_works w = record w { serial = serial.without_gap w.serial }

-- the line was asked, and the step is done without a request
abbrev pub unasked_works : (at : ℕ) → (room : Bool) → Works → Works
unasked_works at room w = record w { serial = serial.asked at room None w.serial; is_due = false }

-- a command that goes out for the first time waits no more
abbrev pub put_first : (is_first : Bool) → (station : ℕ) → Run → Run
put_first true station r = after_call (PutOnLine station) r
put_first false station r = r

-- the line was asked, and a request goes out
abbrev pub asked_works : (at : ℕ) → (room : Bool) → Sending → Works → Works
asked_works at room x w =
    with_tasks (put_first (is_first_command w.serial.line x) x.station (tasks_of w))
    (unasked_works at room w)

-- the step is done, if it wasn't
abbrev pub done_works : (at : ℕ) → (room : Bool) → Works → Works
done_works at room w = if w.is_due then unasked_works at room (settled_works at w) else w
