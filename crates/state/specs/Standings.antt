-- How far the received events are on the disk, as a keeper knows it (profile).
use Rattle.std.specs.Prelude.{◌≡◌, ℕ, Bool, true, false, not, [], ◌∷◌, ◌++◌, map, Option, Some}
use Rattle.std.specs.Prelude.{None, ◌⊎◌}
use Rattle.gateway.specs.Log.{Log}
use Rattle.gateway.specs.State.{State}
use Rattle.state.specs.Deeds.{Deeds, Begun, GivenUp, Received, IsAllOnDisk, appended, arrived}
use Rattle.state.specs.Deeds.{grown, is_kept}
use Rattle.state.specs.Lines.{IsRefusedBy}
use Rattle.state.specs.Deeds.{loss_of, moment_of, oldest, waiting}
use Rattle.state.specs.declared.loss.Loss.{Loss}
use Rattle.state.specs.declared.loss.Loss.TheVariants.{Marked, Unmarked}
use Rattle.state.specs.declared.loss.StoreFault.{StoreFault}
use Rattle.state.specs.declared.loss.StoreFault.TheVariants.{Failed}
use Rattle.state.specs.declared.standing.Standing.{Standing}
use Rattle.state.specs.declared.standing.Standing.TheVariants as standings

-- the moment of the oldest of these, if there is one
abbrev pub since_of : Log → Option ℕ
since_of [] = None
since_of (event ∷ log) = Some (oldest event log)

-- the log has all received events, and some wait for the disk since this moment
pub record IsWaiting (moment : ℕ) (deeds : Deeds) : Type 0 where
  pub kept : is_kept deeds ≡ true
  pub whole : appended deeds ≡ arrived deeds
  pub since : since_of (waiting deeds) ≡ Some moment

-- all of them are on the disk
pub record IsSynced (deeds : Deeds) : Type 0 where
  pub disk : IsAllOnDisk deeds
  pub whole : appended deeds ≡ arrived deeds
  pub none : waiting deeds ≡ []

abbrev pub IsStanding : Standing → Deeds → Type 0
IsStanding standings.Synced deeds = IsSynced deeds
IsStanding (standings.Waiting since) deeds = IsWaiting since deeds
IsStanding (standings.Lost loss) deeds = loss_of deeds ≡ Some loss

-- a loss is borne if it may be and the state on the disk is marked as stale
abbrev pub is_borne : Loss → (bears : Bool) → Bool
is_borne Marked bears = bears
is_borne Unmarked bears = false

-- the store has failed, and that isn't borne
abbrev pub is_stopped : Standing → (bears : Bool) → Bool
is_stopped standings.Synced bears = false
is_stopped (standings.Waiting moment) bears = false
is_stopped (standings.Lost loss) bears = not (is_borne loss bears)

-- none waits
abbrev pub IsSettled : Standing → Type 0
IsSettled standings.Synced = Unit {0}
IsSettled (standings.Waiting since) = ⊥
IsSettled (standings.Lost loss) = Unit {0}

-- the moment of an answer's event, if it gives one
abbrev pub IsMomentOf : Option ℕ → Log → Type 0
IsMomentOf None news = news ≡ []
IsMomentOf (Some now) [] = ⊥
IsMomentOf (Some now) (event ∷ news) = (moment_of event ≡ now) × (news ≡ [])

-- it stood so, and then these events were received
pub record HasReceived (standing : Standing) (news : Log) (deeds : Deeds) : Type 0 where
  pub earlier : Deeds
  pub stood : IsStanding standing earlier
  pub arrived : deeds ≡ map Received news ++ earlier

-- what a call on the store leaves of the port beside it
pub record IsPortLeft {S F : Type 0} (log : S → Option Log) (failed : S → ℕ) (ended : S → Bool)
    (script : S → F) (old new : S) : Type 0 where
  pub logged : log new ≡ log old
  pub cause : failed new ≡ failed old
  pub over : ended new ≡ ended old
  pub fixed : script new ≡ script old

abbrev pub is_lost : Standing → Bool
is_lost standings.Synced = false
is_lost (standings.Waiting moment) = false
is_lost (standings.Lost loss) = true

-- The store has failed as it was to append the lines of these events.
pub record HasFailed (events : Log) (loss : Loss) (old new : Deeds) : Type 0 where
  pub fault : StoreFault
  pub failed : new ≡ GivenUp fault loss ∷ old
  pub refused : IsRefusedBy fault events (grown old)

-- a new log was begun with this state, or the store failed to
abbrev pub Renews : (old : Deeds) → State → (new : Deeds) → Type 0
Renews old state new =
    (new ≡ Begun state ∷ old) ⊎ ((loss : Loss) × (new ≡ GivenUp Failed loss ∷ old))
