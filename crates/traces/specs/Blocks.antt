-- A text that is read on, block by block.
use Rattle.std.specs.Prelude.{◌≡◌, ℕ, Bool, true, false, List, ◌∷◌, ◌++◌, take, Option, None, Some}
use Rattle.std.specs.Io.KnownBytes.{prepend_known}

-- how far a text was read: the latest block, whether it was the last, and what is still to come, if
-- that is known
pub record Reading : Type 0 where
  pub lines : List ℕ
  pub is_over : Bool
  pub coming : Option (List ℕ)

-- these lines are a text up to one of its line feeds (10), and the rest is still to come; or they
-- are all of it
abbrev pub AreCutOff : (text lines : List ℕ) (is_over : Bool) (coming : Option (List ℕ)) → Type 0
AreCutOff text lines true coming = text ≡ lines
AreCutOff text lines false None = ⊥
AreCutOff text lines false (Some rest) = text ≡ lines ++ 10 ∷ rest

-- a text is given up to one of its line feeds, which is left out, and the rest is still to come; or
-- all of it is the last block
abbrev pub IsGiven : (text : List ℕ) → Reading → Type 0
IsGiven text reading = AreCutOff text reading.lines reading.is_over reading.coming

-- the first octets of a row, which were read of a text, and then what is left of it, if that is
-- known
abbrev pub held_and_left : (held : ℕ) → (row : List ℕ) → (left : Option (List ℕ))
    → Option (List ℕ)
held_and_left held row left = prepend_known (take held row) left

-- these octets are all that a reader will give, if that is known
abbrev pub Gives : Option (List ℕ) → List ℕ → Type 0
Gives None octets = Unit {0}
Gives (Some known) octets = known ≡ octets
