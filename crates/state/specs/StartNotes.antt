-- What is said of a state that was kept, when a run begins with it or would (profile).
use Rattle.std.specs.Prelude.{ℕ, Bool, true, false, Option, Some, None}
use Rattle.gateway.specs.State.{State}
use Rattle.runlog.specs.Logging.{taken_in}
use Rattle.runlog.specs.declared.note.Note.{Note}
use Rattle.runlog.specs.declared.note.Note.TheVariants as note
use Rattle.runlog.specs.declared.note.Remnant.{Remnant}
use Rattle.runlog.specs.declared.note.Remnant.TheVariants as remnant
use Rattle.state.specs.declared.given_up.GivenUp.{GivenUp}
use Rattle.state.specs.declared.given_up.Stage.{Stage}
use Rattle.state.specs.declared.given_up.Stage.TheVariants as stage
use Rattle.state.specs.declared.start.Beginning.{Beginning}
use Rattle.state.specs.declared.start.Beginning.TheVariants as beginnings

-- what is made of the state in a directory
abbrev pub note_of : Beginning → Option Note
note_of beginnings.Anew = Some note.StateBegins
note_of beginnings.PutAside = Some note.StatePutAside
note_of beginnings.LinksReset = Some note.StateStale
note_of beginnings.GoesOn = None

-- from this octet of its file on nothing is read of the log, for damage
abbrev pub note_of_damage : Option ℕ → Option Note
note_of_damage None = None
note_of_damage (Some octet) = Some (note.StateDamaged octet)

abbrev pub note_of_settings : (is_moved : Bool) → Option Note
note_of_settings false = None
note_of_settings true = Some note.SettingsChanged

-- a run goes on with so many pieces
abbrev pub note_of_queue : State → Note
note_of_queue gateway = note.StateGoesOn (taken_in gateway)

abbrev pub remnant_of : Stage → Remnant
remnant_of stage.Unanswered = remnant.Unanswered
remnant_of stage.Waiting = remnant.Waiting
remnant_of stage.Selection = remnant.Selection
remnant_of stage.OwnAnswer = remnant.OwnAnswer

-- a start gives up this of the connection
abbrev pub note_of_given_up : GivenUp → Note
note_of_given_up g = note.GivenUp (remnant_of g.stage) g.kind g.ca g.object
