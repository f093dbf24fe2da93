-- How a record and its run are compared, part by part (this gateway's own profile).
use Rattle.std.specs.Prelude.{◌≡◌, ℕ, ◌+◌, false, List, [], ◌∷◌, ◌++◌, length, Some}
use Rattle.record.specs.Lines.{whole_lines, is_cut, first_difference}
use Rattle.record.specs.declared.audit.comparing.Agreement.{Agreement}
use Rattle.record.specs.declared.audit.comparing.Agreement.TheVariants.{Level, Behind, Differs}
use Rattle.record.specs.declared.audit.comparing.Walk.{Walk}
use Rattle.record.specs.declared.audit.comparing.Walk.TheVariants as walks

-- a text of whole lines: those of what follows it come behind them
abbrev pub AreWhole : List ℕ → Type 0
AreWhole text = (more : List ℕ) → whole_lines (text ++ more) ≡ whole_lines text ++ whole_lines more

-- The comparison of these lines with those of a run goes on as that of others from n on, whatever
-- follows both.
abbrev pub GoesOn : (first : ℕ) → (lines run : List (List ℕ)) → (n : ℕ)
    → (left ahead : List (List ℕ))
    → Type 0
GoesOn first lines run n left ahead = (more later : List (List ℕ))
    → first_difference first (lines ++ more) (run ++ later)
    ≡ first_difference n (left ++ more) (ahead ++ later)

-- this line has this number, counted from that of the first of these lines
pub record Numbers (first : ℕ) (lines : List (List ℕ)) (n : ℕ) (line : List ℕ) : Type 0 where
  pub front : List (List ℕ)
  pub behind : List (List ℕ)
  pub parted : lines ≡ front ++ line ∷ behind
  pub counted : n ≡ first + length front

-- the line of this number, which is this one, isn't the run's, whatever follows
pub record IsOff (first : ℕ) (lines run : List (List ℕ)) (n : ℕ) (line : List ℕ) : Type 0 where
  pub numbers : Numbers first lines n line
  pub off : (more later : List (List ℕ))
      → first_difference first (lines ++ more) (run ++ later) ≡ Some n

-- the run has no line so far for the first of these lines, which has this number
pub record IsBehind (first : ℕ) (lines run : List (List ℕ)) (n : ℕ) (line : List ℕ) : Type 0 where
  pub numbers : Numbers first lines n line
  pub uncut : is_cut line ≡ false
  pub others : List (List ℕ)
  pub goes : GoesOn first lines run n (line ∷ others) []

-- where lines, of which the first has this number, stand beside those of a run
abbrev pub IsWalk : (first : ℕ) → List (List ℕ) → (run : List ℕ) → Walk → Type 0
IsWalk first lines run (walks.Level ahead) =
    GoesOn first lines (whole_lines run) (first + length lines) [] (whole_lines ahead.now)
    × (AreWhole run → AreWhole ahead.now)
IsWalk first lines run (walks.Behind n line) = IsBehind first lines (whole_lines run) n line.now
IsWalk first lines run (walks.Differs n line) = IsOff first lines (whole_lines run) n line.now

-- how all lines so far stand beside those of the run so far
abbrev pub IsCompared : (lines run : List (List ℕ)) → Agreement → Type 0
IsCompared lines run (Level ahead) =
    GoesOn 1 lines run (1 + length lines) [] (whole_lines ahead.items) × AreWhole ahead.items
IsCompared lines run (Behind n line) = IsBehind 1 lines run n line.items
IsCompared lines run (Differs n line) = IsOff 1 lines run n line.items
