-- What is done when the events of a run are kept on a disk, in one history: the gateway receives an
-- event, its line goes to the log on the disk, the log is synced, an action is handed out
-- (profile).
use Rattle.std.specs.Prelude.{◌≡◌, ℕ, ◌+◌, ◌-◌, ◌<◌, ◌⊎◌, Bool, true, false, List, [], ◌∷◌, map}
use Rattle.std.specs.Prelude.{Option}
use Rattle.std.specs.Prelude.{Some, None, IfSome, length}
use Rattle.std.specs.Option.{is_some}
use Rattle.gateway.specs.Log.{Log, LogEntry, Came, Went}
use Rattle.gateway.specs.Ports.{logged_by, output_of}
use Rattle.gateway.specs.Restored.{IsSavable}
use Rattle.gateway.specs.State.{State, IsBetweenSteps}
use Rattle.traces.specs.Printed.{line_of_entry}
use Rattle.state.specs.Lines.{IsRefusedBy, seal_octets}
use Rattle.state.specs.declared.loss.Loss.{Loss}
use Rattle.state.specs.declared.loss.Loss.TheVariants.{Marked}
use Rattle.state.specs.declared.loss.StoreFault.{StoreFault}
use Rattle.state.specs.declared.trail.Done.{Done}
use Rattle.state.specs.declared.trail.Done.TheVariants as done

pub data Deed : Type 0 where
  -- the gateway is about to receive an event
  Received : (event : LogEntry) → Deed
  -- the line of an event was appended to the log
  Appended : (event : LogEntry) → Deed
  -- all that was appended is on the disk
  Synced : Deed
  -- a new log stands on the disk, with this state at its head
  Begun : (state : State) → Deed
  -- the store has failed; why, and whether the state on the disk was marked as stale
  GivenUp : (fault : StoreFault) → (loss : Loss) → Deed
  -- an action was handed out
  PutOut : (action : LogEntry) → Deed

-- the newest first
abbrev pub Deeds : Type 0
Deeds = List Deed

-- the events that were received
abbrev pub arrived : Deeds → Log
arrived [] = []
arrived (Received event ∷ deeds) = event ∷ arrived deeds
arrived (Appended event ∷ deeds) = arrived deeds
arrived (Synced ∷ deeds) = arrived deeds
arrived (Begun state ∷ deeds) = arrived deeds
arrived (GivenUp fault loss ∷ deeds) = arrived deeds
arrived (PutOut action ∷ deeds) = arrived deeds

-- what passed at the port: the events that were received, and the actions that were handed out
abbrev pub passed : Deeds → Log
passed [] = []
passed (Received event ∷ deeds) = event ∷ passed deeds
passed (Appended event ∷ deeds) = passed deeds
passed (Synced ∷ deeds) = passed deeds
passed (Begun state ∷ deeds) = passed deeds
passed (GivenUp fault loss ∷ deeds) = passed deeds
passed (PutOut action ∷ deeds) = action ∷ passed deeds

-- what passed at a port that gives its log is what the deeds say
abbrev pub HasPassed : (port : Option Log) → Deeds → Type 0
HasPassed port deeds = IfSome port (λ log. log ≡ passed deeds)

-- Each log that was begun, the newest first: the state at its head, and what had passed at the port
-- when it was begun.
abbrev pub heads : Deeds → List (State × Log)
heads [] = []
heads (Received event ∷ deeds) = heads deeds
heads (Appended event ∷ deeds) = heads deeds
heads (Synced ∷ deeds) = heads deeds
heads (Begun state ∷ deeds) = (state, passed deeds) ∷ heads deeds
heads (GivenUp fault loss ∷ deeds) = heads deeds
heads (PutOut action ∷ deeds) = heads deeds

-- the events that the log has, and before them those that led to the state at its head
abbrev pub appended : Deeds → Log
appended [] = []
appended (Received event ∷ deeds) = appended deeds
appended (Appended event ∷ deeds) = event ∷ appended deeds
appended (Synced ∷ deeds) = appended deeds
appended (Begun state ∷ deeds) = arrived deeds
appended (GivenUp fault loss ∷ deeds) = appended deeds
appended (PutOut action ∷ deeds) = appended deeds

-- those of them that are on the disk
abbrev pub on_disk : Deeds → Log
on_disk [] = []
on_disk (Received event ∷ deeds) = on_disk deeds
on_disk (Appended event ∷ deeds) = on_disk deeds
on_disk (Synced ∷ deeds) = appended deeds
on_disk (Begun state ∷ deeds) = arrived deeds
on_disk (GivenUp fault loss ∷ deeds) = on_disk deeds
on_disk (PutOut action ∷ deeds) = on_disk deeds

-- those of them that aren't
abbrev pub waiting : Deeds → Log
waiting [] = []
waiting (Received event ∷ deeds) = waiting deeds
waiting (Appended event ∷ deeds) = event ∷ waiting deeds
waiting (Synced ∷ deeds) = []
waiting (Begun state ∷ deeds) = []
waiting (GivenUp fault loss ∷ deeds) = waiting deeds
waiting (PutOut action ∷ deeds) = waiting deeds

-- the events behind the state at the head of the log
abbrev pub written : Deeds → Log
written [] = []
written (Received event ∷ deeds) = written deeds
written (Appended event ∷ deeds) = event ∷ written deeds
written (Synced ∷ deeds) = written deeds
written (Begun state ∷ deeds) = []
written (GivenUp fault loss ∷ deeds) = written deeds
written (PutOut action ∷ deeds) = written deeds

-- how many octets the log has behind its head: their lines, and a seal of 27 octets for each sync
abbrev pub grown : Deeds → ℕ
grown [] = 0
grown (Received event ∷ deeds) = grown deeds
grown (Appended event ∷ deeds) = grown deeds + length (line_of_entry event)
grown (Synced ∷ deeds) = grown deeds + seal_octets
grown (Begun state ∷ deeds) = 0
grown (GivenUp fault loss ∷ deeds) = grown deeds
grown (PutOut action ∷ deeds) = grown deeds

-- a log was begun, and the store hasn't failed since
abbrev pub is_kept : Deeds → Bool
is_kept [] = false
is_kept (Received event ∷ deeds) = is_kept deeds
is_kept (Appended event ∷ deeds) = is_kept deeds
is_kept (Synced ∷ deeds) = is_kept deeds
is_kept (Begun state ∷ deeds) = true
is_kept (GivenUp fault loss ∷ deeds) = false
is_kept (PutOut action ∷ deeds) = is_kept deeds

-- that the store has failed, if no log was begun since
abbrev pub loss_of : Deeds → Option Loss
loss_of [] = None
loss_of (Received event ∷ deeds) = loss_of deeds
loss_of (Appended event ∷ deeds) = loss_of deeds
loss_of (Synced ∷ deeds) = loss_of deeds
loss_of (Begun state ∷ deeds) = None
loss_of (GivenUp fault loss ∷ deeds) = Some loss
loss_of (PutOut action ∷ deeds) = loss_of deeds

abbrev pub moment_of : LogEntry → ℕ
moment_of (Came now event) = now
moment_of (Went now action) = now

-- the moment of the oldest of these, if the newest is this one
abbrev pub oldest : (newest : LogEntry) → Log → ℕ
oldest newest [] = moment_of newest
oldest newest (event ∷ log) = oldest event log

-- how long the oldest of them was there when the newest came, in ms
abbrev pub span : Log → ℕ
span [] = 0
span (event ∷ log) = moment_of event - oldest event log

-- all received events are on the disk
abbrev pub IsAllOnDisk : Deeds → Type 0
IsAllOnDisk deeds = (is_kept deeds ≡ true) × (on_disk deeds ≡ arrived deeds)

-- an action may go out: all received events are on the disk, or the state there is marked as stale
abbrev pub IsSafe : Deeds → Type 0
IsSafe deeds = IsAllOnDisk deeds ⊎ (loss_of deeds ≡ Some Marked)

-- no event waits for the disk while others are received for a second
abbrev pub IsInTime : Deeds → Type 0
IsInTime deeds = (is_some (loss_of deeds) ≡ true) ⊎ (span (waiting deeds) < 1000)

-- the latest of these events, if there is one
abbrev pub latest : Log → Log
latest [] = []
latest (event ∷ log) = event ∷ []

-- When a deed may be done, behind these. An action is handed out if all received events are on the
-- disk, or if the store has failed, the state on the disk is marked as stale and that is borne. No
-- event is received while one has waited for the disk for a second. A log whose store has failed is
-- neither appended to nor synced again, and none is synced for nothing. A log begins with the state
-- of a gateway that can be read again, if it is between two steps. A store fails for want of room
-- only if a new log is due, and for an event only if no line can hold the latest.
abbrev pub MayBe : (bears : Bool) → Deed → Deeds → Type 0
MayBe bears (PutOut action) deeds =
    IsAllOnDisk deeds ⊎ ((loss_of deeds ≡ Some Marked) × (bears ≡ true))
MayBe bears (Received event) deeds = IsInTime deeds
MayBe bears (Appended event) deeds = is_kept deeds ≡ true
MayBe bears Synced deeds = (is_kept deeds ≡ true) × (waiting deeds ≡ [] → ⊥)
MayBe bears (Begun state) deeds = IsBetweenSteps state → IsSavable state
MayBe bears (GivenUp fault loss) deeds = IsRefusedBy fault (latest (arrived deeds)) (grown deeds)

-- each deed might be done when it was
abbrev pub AreRight : (bears : Bool) → Deeds → Type 0
AreRight bears [] = Unit {0}
AreRight bears (deed ∷ deeds) = MayBe bears deed deeds × AreRight bears deeds

-- what a deed that was done adds to the history
abbrev pub deeds_of : Done → Deeds
deeds_of (done.Received next buf) = map Received (logged_by next buf.now)
deeds_of (done.Appended next buf) = map Appended (logged_by next buf.now)
deeds_of done.Synced = Synced ∷ []
deeds_of (done.Begun gateway) = Begun gateway.now ∷ []
deeds_of (done.GivenUp fault loss) = GivenUp fault loss ∷ []
deeds_of (done.PutOut now action) = PutOut (Went now (output_of action.now)) ∷ []
