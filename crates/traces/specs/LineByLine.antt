-- What each line of a trace is, and what the lines of a text say (texts of this gateway's own
-- profile).
use Rattle.std.specs.Prelude.{◌≡◌, ◌⊎◌, ℕ, ◌+◌, List, [], ◌∷◌, ◌++◌, length}
use Rattle.std.specs.List.{AllByRecursion}
use Rattle.gateway.specs.Log.{LogEntry}
use Rattle.traces.specs.Event.{Event}
use Rattle.traces.specs.Progress.{came}
use Rattle.traces.specs.Saying.{Says}

-- a line that is passed over: an empty one, or a comment, which begins with `#` (35)
abbrev pub IsPassedOver : (line : List ℕ) → Type 0
IsPassedOver line = (line ≡ []) ⊎ ((text : List ℕ) × (line ≡ 35 ∷ text))

-- a line that is as it should be
abbrev pub IsGood : (line : List ℕ) → Type 0
IsGood line = IsPassedOver line ⊎ ((event : Event) × Says line event)

-- Of these lines, which are counted from `first` on, the one with this number is the first that
-- isn't as it should be.
pub record IsFirstWrong (first : ℕ) (lines : List (List ℕ)) (number : ℕ) : Type 0 where
  pub before : List (List ℕ)
  pub line : List ℕ
  pub behind : List (List ℕ)
  pub are : lines ≡ before ++ line ∷ behind
  pub counted : number ≡ first + length before
  pub good : AllByRecursion IsGood before
  pub wrong : IsGood line → ⊥

-- the lines that aren't passed over say these events, each its own, in their order
abbrev pub AreSaid : (lines : List (List ℕ)) → List LogEntry → Type 0
AreSaid [] entries = entries ≡ []
AreSaid (line ∷ lines) entries =
    (IsPassedOver line × AreSaid lines entries)
    ⊎ ((event : Event) × (rest : List LogEntry) × Says line event × (entries ≡ came event ∷ rest)
    × AreSaid lines rest)
