-- What a crash leaves of a log of events (profile).
use Rattle.std.specs.Prelude.{◌≡◌, ◌⊎◌, ℕ, List, [], ◌∷◌, Some, ◌++◌, reverse}
use Rattle.std.specs.List.{AllByRecursion, concat}
use Rattle.gateway.specs.Log.{Log}
use Rattle.gateway.specs.Restored.{state_lines}
use Rattle.gateway.specs.State.{State}
use Rattle.segments.specs.Crash.{HasNoOther}
use Rattle.segments.specs.Crashes.{Survives, log_text}
use Rattle.segments.specs.Room.{log_in}
use Rattle.traces.specs.Printed.{lines_of_log}
use Rattle.state.specs.Beginnings.{IsReadWhole, IsHeadOf}
use Rattle.state.specs.Deeds.{Deeds, waiting}
use Rattle.state.specs.Lines.{IsWritable}
use Rattle.state.specs.Replays.{AreRead, events_in_front, whole_lines}
use Rattle.state.specs.Stores.{head, safe}

-- Whatever a crash leaves of a file: the segment with this number and this checkpoint, and behind
-- it the lines of these events, of which the earlier ones are synced and the later ones wait. Each
-- octet there is one of this text, with its seals, or 0.
pub record HasLog (outcomes : List ℕ → Type 0) (number : ℕ) (body : List ℕ) (waiting synced : Log) :
    Type 0 where
  pub writable : AllByRecursion IsWritable (waiting ++ synced)
  pub writes : List (List ℕ)
  pub lines : concat writes ≡ lines_of_log synced
  pub survives : Survives outcomes number body writes
  pub mixed : HasNoOther outcomes
      (log_text number body (writes ++ lines_of_log waiting ∷ []))

-- these lines log these events, the oldest first, and each line logs one
pub record LogAll (lines : List (List ℕ)) (events : Log) : Type 0 where
  pub logged : events_in_front lines ≡ reverse events
  pub each : AreRead lines

-- These lines log all events that were synced, and the oldest of those that waited; the others are
-- lost. Those that waited are left together, or none is.
pub record AreLeft (waiting synced : Log) (lines : List (List ℕ)) : Type 0 where
  pub lost : Log
  pub left : Log
  pub split : waiting ≡ lost ++ left
  pub together : (lost ≡ []) ⊎ (left ≡ [])
  pub with_news : LogAll lines (left ++ synced)

-- A start reads this of a file: at the head of its log the settings, and the state with which that
-- was begun; behind it all events that were synced, and the oldest of those that waited. No other
-- line stands there.
pub record IsKeptIn (settings : List ℕ) (deeds : Deeds) (file : List ℕ) : Type 0 where
  pub state : State
  pub begun : head deeds ≡ Some state
  pub begins : ℕ
  pub opening : IsHeadOf file begins settings (state_lines state)
  pub left : AreLeft (waiting deeds) (safe deeds) (whole_lines (log_in begins file))
  pub read : IsReadWhole file
