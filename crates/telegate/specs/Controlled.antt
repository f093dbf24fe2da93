-- How the command that is a control centre ends (this gateway's own profile).
use Rattle.std.specs.Prelude.{◌≡◌, ◌⊎◌, ◌<◌, ◌++◌, ℕ, Bool, if◌then◌else◌, List, Option}
use Rattle.std.specs.Io.KnownBytes.{Appends}
use Rattle.centre.specs.Endings.{status_of}
use Rattle.centre.specs.Telling.{end_line}
use Rattle.centre.specs.declared.errand.Outcome.{Outcome}
use Rattle.centre.specs.declared.telling.Style.{Style}
use Rattle.centre.specs.declared.telling.Style.TheVariants.{Words, Json}

abbrev pub style_of : (json : Bool) → Style
style_of json = if json then Json else Words

-- what passed is printed
abbrev pub HasPrinted : (old new : Option (List ℕ)) → Type 0
HasPrinted old new = (passed : List ℕ) × Appends old new passed

-- what became of the errand is printed, and is the exit status; or that isn't 0
abbrev pub IsTold : Style → Outcome → (old new : Option (List ℕ)) → (exit : ℕ) → Type 0
IsTold style outcome old new exit =
    (Appends old new (end_line style outcome) × (exit ≡ status_of outcome)) ⊎ (0 < exit)

-- The last line, behind what passed, and the exit status say the same of the errand.
pub record HasSaid (style : Style) (old new : Option (List ℕ)) (exit : ℕ) : Type 0 where
  pub outcome : Outcome
  pub passed : List ℕ
  pub printed : Appends old new (passed ++ end_line style outcome)
  pub status : exit ≡ status_of outcome

-- so it is wherever the exit status is 0
abbrev pub EndsAsSaid : (json : Bool) → (old new : Option (List ℕ)) → (exit : ℕ) → Type 0
EndsAsSaid json old new exit = HasSaid (style_of json) old new exit ⊎ (0 < exit)
