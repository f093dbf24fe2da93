-- What a start makes of a log that a crash left (profile).
use Rattle.std.specs.Prelude.{◌≡◌, ℕ, false, List, [], ◌∷◌, ◌++◌, reverse, Some, Ok, IsTrue}
use Rattle.gateway.specs.Agrees.{Follows, Rests}
use Rattle.gateway.specs.Config.{Settings}
use Rattle.gateway.specs.Log.{Came, Log, Restarted, events_of}
use Rattle.gateway.specs.Restored.{IsSavable}
use Rattle.gateway.specs.Setups.{setup_of}
use Rattle.gateway.specs.State.{State}
use Rattle.segments.specs.Crashes.{AreBoth}
use Rattle.settings.specs.Settings.{IsReadOfText}
use Rattle.sqlite_disk.specs.declared.Disk.{Ghosts}
use Rattle.state.specs.Deeds.{Deeds, waiting}
use Rattle.state.specs.Origins.{IsBegun}
use Rattle.state.specs.Replays.{last_gap}
use Rattle.state.specs.Stores.{head, safe}
use Rattle.state.specs.declared.beginning.Origin.{Origin}
use Rattle.state.specs.declared.opened.Opened.TheVariants as opens
use Rattle.state.specs.declared.start.Beginning.TheVariants as beginnings

-- With these settings a run begins so if it finds these two files as they are, in either place, and
-- the directory isn't marked as stale.
pub record IsBegunOver {D : Type 0} (g : Ghosts D) (file other : List ℕ) (c : Settings)
    (log : Log) (o : Origin) : Type 0 where
  pub newest : D
  pub spare : D
  pub found : AreBoth file other (g.seen newest) (g.seen spare)
  pub clean : IsTrue (g.is_clean newest) × IsTrue (g.is_clean spare)
  pub begun : IsBegun {D = D} {g = g} c log (Some false) (opens.Both newest spare) o

-- The gateway follows a log that goes on from this one, with all events that were synced, with the
-- oldest of those that waited, and with a restart at its end. The clock goes on where it stands.
-- The gap of the last step before is reported again.
pub record HasReturned (c : Settings) (log : Log) (deeds : Deeds) (o : Origin) : Type 0 where
  pub lost : Log
  pub left : Log
  pub split : waiting deeds ≡ lost ++ left
  pub arrived : events_of o.before.entries
      ≡ (events_of log ++ reverse (left ++ safe deeds)) ++ Came o.gateway.moment Restarted ∷ []
  pub news : Log
  pub behind : o.before.entries ≡ Came o.gateway.moment Restarted ∷ (news ++ log)
  pub gap : o.gap ≡ last_gap news
  pub follows : Follows (setup_of c) o.gateway (Some o.before.entries)
  pub rests : Rests (setup_of c) (Some o.before.entries)
  pub clock : o.moment ≡ Some o.gateway.moment

-- It goes on with the log of these deeds: if the state with which that was begun has followed this
-- log, the gateway has returned to where they led.
abbrev pub Returns : Settings → Log → Deeds → Origin → Type 0
Returns c log deeds o = (state : State) → head deeds ≡ Some state → IsSavable state
    → Follows (setup_of c) state (Some log) → Rests (setup_of c) (Some log)
    → HasReturned c log deeds o

-- A run that finds these two files, in either place, trusts what they say of the links. If the text
-- under which they were written says its settings, it goes on with the log of these deeds.
abbrev pub GoesOnOver : {D : Type 0} → Ghosts D → (settings : List ℕ) → Deeds
    → (file other : List ℕ) → Type 0
GoesOnOver g settings deeds file other = (c : Settings) (log : Log) (o : Origin)
    → IsBegunOver g file other c log o
    → (o.beginning ≡ beginnings.GoesOn) × (IsReadOfText settings (Ok c) → Returns c log deeds o)
