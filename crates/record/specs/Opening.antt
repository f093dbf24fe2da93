-- The first lines of a record, which say the state with which its run goes on (this gateway's own
-- profile).
use Rattle.std.specs.Prelude.{◌≡◌, ℕ, ◌+◌, true, false, List, [], ◌∷◌, ◌++◌, length, Some}
use Rattle.std.specs.List.{AllByRecursion}
use Rattle.gateway.specs.Agrees.{Follows}
use Rattle.gateway.specs.Config.{Settings}
use Rattle.gateway.specs.Log.{Log}
use Rattle.gateway.specs.Restored.{HasSettings, IsSavable, state_lines}
use Rattle.gateway.specs.Setups.{setup_of}
use Rattle.gateway.specs.State.{State}
use Rattle.gateway.specs.Traffic.{HasRested}
use Rattle.statetext.specs.Text.{lines_in}
use Rattle.record.specs.Lines.{first_state, says_state}
use Rattle.record.specs.declared.audit.RecordFault.{RecordFault}
use Rattle.record.specs.declared.audit.RecordFault.TheVariants.{Line, Unfit, Unread, NoMemory}
use Rattle.record.specs.declared.audit.opening.FirstLines.{FirstLines}

-- ---- What is said

-- what was said is the state of a gateway with these settings, to which this log has led
pub record IsStateBehind (settings : Settings) (said : List ℕ) (past : Log) : Type 0 where
  pub state : State
  pub savable : IsSavable state
  pub are : lines_in said ≡ state_lines state
  pub follows : Follows (setup_of settings) state (Some past)
  pub rests : HasRested (setup_of settings) past

-- A run begins behind this log: with the state that was said, or anew if none was.
pub record BeginsBehind (settings : Settings) (said : List ℕ) (past : Log) : Type 0 where
  pub anew : said ≡ [] → past ≡ []
  pub goes_on : (said ≡ [] → ⊥) → IsStateBehind settings said past

-- no gateway with these settings has the state that was said
abbrev pub IsNoState : Settings → (said : List ℕ) → Type 0
IsNoState settings said = (state : State) → IsSavable state → HasSettings settings state
    → lines_in said ≡ state_lines state → ⊥

-- why a run doesn't begin of which so many lines say this
abbrev pub IsOpeningFault : Settings → (said : List ℕ) → (count : ℕ) → RecordFault → Type 0
IsOpeningFault settings said count (Line n) = ⊥
IsOpeningFault settings said count (Unfit n) = (n ≡ count) × IsNoState settings said
IsOpeningFault settings said count Unread = Unit {0}
IsOpeningFault settings said count NoMemory = Unit {0}

-- ---- How it is passed

abbrev pub AreState : List (List ℕ) → Type 0
AreState lines = AllByRecursion (λ line. says_state line ≡ true) lines

-- the first of these lines says no state, if there is one
abbrev pub IsOther : List (List ℕ) → Type 0
IsOther [] = Unit {0}
IsOther (line ∷ lines) = says_state line ≡ false

-- the first of these lines say state, and were taken behind others; the rest is left
pub record Takes (old : FirstLines) (lines : List (List ℕ)) (new : FirstLines)
    (left : List (List ℕ)) : Type 0 where
  pub front : List (List ℕ)
  pub parted : lines ≡ front ++ left
  pub state : AreState front
  pub said : new.said.items ≡ old.said.items ++ first_state front
  pub counted : new.count ≡ old.count + length front
