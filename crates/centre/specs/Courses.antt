-- A control centre in time (this gateway's own profile).
use Rattle.std.specs.Prelude.{◌≡◌, ℕ, List, [], ◌++◌, Option, Some}
use Rattle.std.specs.Io.KnownBytes.{Appends}
use Rattle.centre.specs.Desks.{Desk, IsRound, Scene, scene}
use Rattle.centre.specs.declared.errand.Outcome.{Outcome}

-- rounds, one after another, and the text of what passed in all of them
pub data GoesOn (first : Desk) : (text : List ℕ) → Desk → Type 0 where
  Not_yet : GoesOn first [] first
  Round : (now : ℕ) (text : List ℕ) (mid : Desk) (new : Scene) → GoesOn first text mid
      → IsRound now (scene mid []) new → GoesOn first (text ++ new.text) new.desk

-- that text is printed
pub record HasTold (old new : Desk) (before after : Option (List ℕ)) : Type 0 where
  pub text : List ℕ
  pub goes : GoesOn old text new
  pub printed : Appends before after text

-- some text is printed
abbrev pub IsPrinted : (before after : Option (List ℕ)) → Type 0
IsPrinted before after = (text : List ℕ) × Appends before after text

-- this is known then of the errand
pub record HasConversed (old : Desk) (outcome : Outcome) (new : Desk)
    (before after : Option (List ℕ)) : Type 0 where
  pub told : HasTold old new before after
  pub known : new.centre.errand.outcome ≡ Some outcome

-- Who gave nothing is named behind all that passed.
pub record HasPursued (old : Desk) (outcome : Outcome) (new : Desk)
    (before after : Option (List ℕ)) : Type 0 where
  pub mid : Option (List ℕ)
  pub conversed : HasConversed old outcome new before mid
  pub named : IsPrinted mid after
  pub printed : IsPrinted before after
