-- A file at whose end zeros are written (profile).
use Rattle.std.specs.Prelude.{◌≡◌, ℕ, Bool, IsTrue, List, [], length}
use Rattle.segments.specs.Crash.{IsShut, IsLong, IsBlankFrom}
use Rattle.segments.specs.Written.{text_in}

-- what a file holds and may hold after a crash, as zeros are written behind its first octets
pub record IsZeroed (usable : Bool) (seen : List ℕ) (outcomes : List ℕ → Type 0) (at size : ℕ)
    (old : List ℕ) : Type 0 where
  pub can : IsTrue usable
  pub sized : length seen ≡ size
  pub before : text_in at seen [] ≡ text_in at old []
  pub blank : IsBlankFrom at seen
  pub long : IsLong outcomes
  pub shut : IsShut outcomes
