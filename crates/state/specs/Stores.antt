-- What a store has of a run (profile).
use Rattle.std.specs.Prelude.{◌≡◌, Bool, true, false, List, [], ◌∷◌, ℕ, Option, Some, None}
use Rattle.gateway.specs.Log.{Log}
use Rattle.gateway.specs.Restored.{state_lines}
use Rattle.gateway.specs.State.{State}
use Rattle.traces.specs.Printed.{lines_of_log}
use Rattle.state.specs.Deeds.{Deeds, Received, Appended, Synced, Begun, GivenUp, PutOut, arrived}
use Rattle.state.specs.Deeds.{grown, is_kept, loss_of, waiting, written}
use Rattle.state.specs.declared.loss.Loss.TheVariants.{Marked}

-- the state at the head of the log
abbrev pub head : Deeds → Option State
head [] = None
head (Received event ∷ deeds) = head deeds
head (Appended event ∷ deeds) = head deeds
head (Synced ∷ deeds) = head deeds
head (Begun state ∷ deeds) = Some state
head (GivenUp fault loss ∷ deeds) = head deeds
head (PutOut action ∷ deeds) = head deeds

-- the events that led to it
abbrev pub led_to_head : Deeds → Log
led_to_head [] = []
led_to_head (Received event ∷ deeds) = led_to_head deeds
led_to_head (Appended event ∷ deeds) = led_to_head deeds
led_to_head (Synced ∷ deeds) = led_to_head deeds
led_to_head (Begun state ∷ deeds) = arrived deeds
led_to_head (GivenUp fault loss ∷ deeds) = led_to_head deeds
led_to_head (PutOut action ∷ deeds) = led_to_head deeds

-- the events behind it that are on the disk
abbrev pub safe : Deeds → Log
safe [] = []
safe (Received event ∷ deeds) = safe deeds
safe (Appended event ∷ deeds) = safe deeds
safe (Synced ∷ deeds) = written deeds
safe (Begun state ∷ deeds) = []
safe (GivenUp fault loss ∷ deeds) = safe deeds
safe (PutOut action ∷ deeds) = safe deeds

-- what a store says: the lines at the head of its log, those behind them that are on the disk,
-- those
-- that wait for it, and how many octets all that is behind the head has
pub record Stored : Type 0 where
  pub head : List (List ℕ)
  pub safe : List ℕ
  pub held : List ℕ
  pub octets : ℕ

-- the settings, and the lines of a state, if there is one
abbrev pub lines_of_head : (settings : List ℕ) → Option State → List (List ℕ)
lines_of_head settings None = []
lines_of_head settings (Some state) = settings ∷ state_lines state

-- while the state is kept these are the settings, the lines of the state, and those of the events
abbrev pub IsStored : (settings : List ℕ) → Deeds → Stored → Type 0
IsStored settings deeds stored = is_kept deeds ≡ true → stored ≡ record {
  head = lines_of_head settings (head deeds);
  safe = lines_of_log (safe deeds);
  held = lines_of_log (waiting deeds);
  octets = grown deeds;
}

-- If the state is kept, it isn't marked as stale on the disk. If the store has failed, and the
-- history says that the mark was made, the mark stands.
pub record IsMarked (deeds : Deeds) (mark : Option Bool) : Type 0 where
  pub kept : is_kept deeds ≡ true → mark ≡ Some false
  pub lost : loss_of deeds ≡ Some Marked → mark ≡ Some true
