-- What is logged before a run begins (profile).
use Rattle.std.specs.Prelude.{◌≡◌, ℕ, Bool, true, false, Option, Some, None, map}
use Rattle.std.specs.declared.io.ErrorKind.{ErrorKind}
use Rattle.std.specs.declared.net.socket_addr.SocketAddr.{SocketAddr}
use Rattle.gateway.specs.Log.{GapOut}
use Rattle.gateway.specs.State.{State}
use Rattle.runlog.specs.Logging.{Book, LogsNote, LogsAction}
use Rattle.runlog.specs.declared.note.Note.{Note}
use Rattle.runlog.specs.declared.note.Note.TheVariants as note
use Rattle.runlog.specs.declared.note.Obstacle.{Obstacle}
use Rattle.runlog.specs.declared.note.Trouble.TheVariants as trouble
use Rattle.state.specs.declared.beginning.Origin.{Origin}
use Rattle.state.specs.StartNotes.{note_of, note_of_damage, note_of_given_up, note_of_queue}
use Rattle.state.specs.StartNotes.{note_of_settings}
use Rattle.telegate.specs.Law.{LogsAll}
use Rattle.telegate.specs.declared.fault.RunFault.{RunFault}
use Rattle.telegate.specs.declared.fault.RunFault.TheVariants.{EndUnusable, NoMemory, StateInUse}
use Rattle.telegate.specs.declared.fault.RunFault.TheVariants.{StateUnusable}
use Rattle.telegate.specs.declared.site.EndRefusal.{EndRefusal}

-- a note is logged, if there is one
abbrev pub LogsNoteIf : Option Note → (old new : Book) → Type 0
LogsNoteIf None old new = new ≡ old
LogsNoteIf (Some note) old new = LogsNote old note new

abbrev pub note_of_address : Option SocketAddr → Option Note
note_of_address None = None
note_of_address (Some address) = Some (note.Listening address)

-- the run goes on with so many pieces, if it goes on
abbrev pub note_if_on : (moment : Option ℕ) → State → Option Note
note_if_on None gateway = None
note_if_on (Some moment) gateway = Some (note_of_queue gateway)

-- the gap that may not have been seen, at the moment at which the run goes on
abbrev pub LogsGap : (moment : Option ℕ) → Option (ℕ × ℕ) → (old new : Book) → Type 0
LogsGap None gap old new = new ≡ old
LogsGap (Some moment) None old new = new ≡ old
LogsGap (Some moment) (Some gap) old new = LogsAction old moment (GapOut gap.0 gap.1) new

-- how a run begins is logged, in this order, and nothing else
pub record LogsBeginning (o : Origin) (old new : Book) : Type 0 where
  pub told : Book
  pub damage : LogsNoteIf (note_of_damage o.damage) old told
  pub begun : Book
  pub begins : LogsNoteIf (note_of o.beginning) told begun
  pub moved : Book
  pub settings : LogsNoteIf (note_of_settings o.is_moved) begun moved
  pub noted : Book
  pub goes_on : LogsNoteIf (note_if_on o.moment o.gateway) moved noted
  pub named : Book
  pub gives_up : LogsAll (map note_of_given_up o.given_up.items) noted named
  pub gap : LogsGap o.moment o.gap named new

-- its directory can't be used, so that it begins without a state
abbrev pub LogsWithout : (old new : Book) → Type 0
LogsWithout old new = (why : Obstacle) × LogsNote old (note.StateRefused why) new

-- it begins with what its directory has, or without that, if it is marked so
pub data LogsStart (marked : Type 0) (o : Origin) (old new : Book) : Type 0 where
  LogsFound : LogsBeginning o old new → LogsStart marked o old new
  LogsUnused : LogsWithout old new → marked → LogsStart marked o old new

-- The state can't be kept, for this cause, and what stands in the way is logged.
abbrev pub LogsCause : ErrorKind → (old new : Book) → Type 0
LogsCause cause old new =
    (why : Obstacle) × (why.cause ≡ cause) × LogsNote old (note.StateUnkept why) new

-- The state can't be had, which is logged, unless memory is refused.
abbrev pub IsUnkept : RunFault → (old new : Book) → Type 0
IsUnkept StateInUse old new = LogsNote old (note.Trouble trouble.StateInUse) new
IsUnkept (StateUnusable cause) old new = LogsCause cause old new
IsUnkept NoMemory old new = new ≡ old
IsUnkept _ old new = ⊥

-- memory or an end is refused
abbrev pub fault_of : (is_memory : Bool) → RunFault
fault_of true = NoMemory
fault_of false = EndUnusable

-- an end can't be had, which is logged, and the run doesn't begin
pub record IsRefused (fault : RunFault) (old new : Book) : Type 0 where
  pub refusal : EndRefusal
  pub written : LogsNote old (note.Trouble refusal.trouble) new
  pub is : fault ≡ fault_of refusal.is_memory
