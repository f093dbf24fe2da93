-- What holds after every list of calls, from `new` with any settings on.
use Rattle.std.specs.Prelude.{◌≡◌, ℕ, ◌≤◌, List, ◌∷◌}
use Rattle.asdu.specs.declared.sizes.Sizes.{Sizes}
use Rattle.command.specs.declared.station.StationInfo.{StationInfo}
use Rattle.command.specs.State.{State}
use Rattle.command.specs.History.{History}
use Rattle.command.specs.Calls.{Call, Run, run, latest, NeverFall}

abbrev pub AfterEachRun :
    (List StationInfo → Sizes → ℕ → ℕ → State → History → Type 0) → Type 0
AfterEachRun P =
    (stations : List StationInfo) (sizes : Sizes) (select_ms max_age_ms : ℕ) (calls : List Call) →
    P stations sizes select_ms max_age_ms
    (run stations sizes select_ms max_age_ms calls).state
    (run stations sizes select_ms max_age_ms calls).history

-- the same at each moment that isn't before them, if their moments never fall
abbrev pub AtEachMoment :
    (List StationInfo → Sizes → ℕ → ℕ → ℕ → State → History → Type 0) → Type 0
AtEachMoment P =
    (stations : List StationInfo) (sizes : Sizes) (select_ms max_age_ms : ℕ) (calls : List Call) →
    NeverFall calls → (now : ℕ) → latest calls ≤ now →
    P stations sizes select_ms max_age_ms now
    (run stations sizes select_ms max_age_ms calls).state
    (run stations sizes select_ms max_age_ms calls).history

-- some list of calls leaves this state and history
abbrev pub IsRun : List StationInfo → Sizes → ℕ → ℕ → Run → Type 0
IsRun stations sizes select_ms max_age_ms r =
    (calls : List Call) × (run stations sizes select_ms max_age_ms calls ≡ r)

abbrev pub OfEachRun :
    (List StationInfo → Sizes → ℕ → ℕ → State → History → Type 0) → Type 0
OfEachRun P =
    (stations : List StationInfo) (sizes : Sizes) (select_ms max_age_ms : ℕ) (r : Run) →
    IsRun stations sizes select_ms max_age_ms r →
    P stations sizes select_ms max_age_ms r.state r.history
