-- Lives of a gateway whose state is kept, one behind another (this gateway's own profile).
use Rattle.std.specs.Prelude.{◌≡◌, ℕ, List, [], ◌∷◌, ◌++◌, Option, Some, Ok}
use Rattle.gateway.specs.Agrees.{Follows, Rests}
use Rattle.gateway.specs.Config.{Settings}
use Rattle.gateway.specs.Log.{Log}
use Rattle.gateway.specs.Reports.{Setup}
use Rattle.gateway.specs.Restored.{IsSavable}
use Rattle.gateway.specs.State.{State, IsBetweenSteps}
use Rattle.live.specs.Ends.{LiveEnds}
use Rattle.live.specs.declared.watched.Notice.{Notice}
use Rattle.record.specs.Recording.{Recorded}
use Rattle.settings.specs.Settings.{IsReadOfText}
use Rattle.sqlite_disk.specs.declared.Disk.{Ghosts}
use Rattle.state.specs.Both.{Both}
use Rattle.state.specs.Deeds.{Deeds, heads, passed}
use Rattle.state.specs.Keeping.{Keeping}
use Rattle.state.specs.Origins.{IsNew}
use Rattle.state.specs.Returns.{GoesOnOver, IsBegunOver}
use Rattle.state.specs.declared.beginning.Origin.{Origin}
use Rattle.telegate.specs.Served.{BeganWith, log_of_kept, script_of_kept, tends_of_kept}
use Rattle.telegate.specs.Turns.{HasGoneOn, HaveLooked, RunStanding, TakesEvent}
use Rattle.telegate.specs.Turns.{log_in_life, script_in_life, tends_in_life}

-- this state follows this log, each step of which has done all that it could
abbrev pub IsUpTo : Setup → Log → State → Type 0
IsUpTo p log s = Follows p s (Some log) × Rests p (Some log)

-- so does the state at the head of a log, behind what had passed when that was begun, in this life
-- and in those before
abbrev pub IsHeadUpTo : Setup → (before : Log) → State × Log → Type 0
IsHeadUpTo p before head = IsUpTo p (head.1 ++ before) head.0

-- A run has gone on by so many events from its first standing, in which it began so.
pub record HasGoneOnFrom {P F : Type 0} (log : P → Option Log) (script : P → F)
    (tends : P → State → P → Option Notice → Type 0) (begins : State → P → Type 0) (before : Log)
    (events : ℕ) (now : RunStanding (Recorded P)) : Type 0 where
  pub first : RunStanding (Recorded P)
  pub begun : begins first.gateway first.port.port
  pub behind : first.port.pen.before ≡ before
  pub empty : log_in_life log first.port ≡ Some before
  pub on : HasGoneOn (log_in_life log) (script_in_life script) (tends_in_life log tends) first
      events now

-- a run whose state is kept
abbrev pub HasKeptOn : {S : Type 0} → Origin → (events : ℕ)
    → RunStanding (Recorded (Keeping (Both LiveEnds S))) → Type 0
HasKeptOn origin events now =
    HasGoneOnFrom log_of_kept script_of_kept tends_of_kept (BeganWith origin)
    origin.before.entries events now

-- the next event was taken, and all looked
pub record GoesOnByOne {P F : Type 0} (log : P → Option Log) (script : P → F)
    (tends : P → State → P → Option Notice → Type 0) (now : RunStanding P) : Type 0 where
  pub taken : RunStanding P
  pub after : RunStanding P
  pub takes : TakesEvent log script now taken
  pub looks : HaveLooked log tends taken after

-- This state was put at the head of a log, behind what had passed in the run: of its first log, of
-- one that was begun by now, or of one that is begun at the next look. Whether the last is whole on
-- the disk isn't said.
pub data IsHeadIn {S : Type 0} (origin : Origin)
    (now : RunStanding (Recorded (Keeping (Both LiveEnds S)))) : State × Log → Type 0 where
  OfTheFirst : IsHeadIn origin now (origin.gateway, [])
  OfOneBegun : (head : State × Log) (earlier : List (State × Log))
      → heads now.port.port.ends.deeds ≡ head ∷ earlier → IsHeadIn origin now head
  OfTheNext : (next : GoesOnByOne (log_in_life log_of_kept) (script_in_life script_of_kept)
      (tends_in_life log_of_kept tends_of_kept) now)
      → IsHeadIn origin now (next.taken.gateway, passed next.taken.port.port.ends.deeds)

-- The one run comes behind the other, with the same settings: those that the text says under which
-- that one kept its state. That one was cut, at a moment at which these were the deeds: so this
-- state stands at the head of its log, and can be read. The next run finds what the crash has left.
pub record ComesBehind (S : Type 0) {D : Type 0} (g : Ghosts D) (c : Settings)
    (this next : Origin) : Type 0 where
  pub events : ℕ
  pub now : RunStanding (Recorded (Keeping (Both LiveEnds S)))
  pub gone : HasKeptOn this events now
  pub head : State × Log
  pub in_run : IsHeadIn this now head
  pub deeds : Deeds
  pub earlier : List (State × Log)
  pub newest : heads deeds ≡ head ∷ earlier
  pub readable : IsBetweenSteps head.0 → IsSavable head.0
  pub text : List ℕ
  pub says : IsReadOfText text (Ok c)
  pub file : List ℕ
  pub other : List ℕ
  pub left : GoesOnOver g text deeds file other
  pub begun : IsBegunOver g file other c (head.1 ++ this.before.entries) next

-- The last of any number of lives with these settings, whose first one began anew.
pub data IsLastOfLives (S : Type 0) {D : Type 0} (g : Ghosts D) (c : Settings)
    : Origin → Type 0 where
  First : (origin : Origin) → IsNew c origin → IsLastOfLives S g c origin
  Behind : (this next : Origin) → IsLastOfLives S g c this → ComesBehind S g c this next
      → IsLastOfLives S g c next
