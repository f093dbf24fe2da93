-- Pieces that an I format can carry (IEC 60870-5-104, 5).
use Rattle.std.specs.Prelude.{ℕ, ◌≤◌, List, length}
use Rattle.std.specs.List.{AllByRecursion}
use Rattle.arrayvec.specs.ArrayVec.{ArrayVec}

-- 9 to 249 octets
abbrev pub IsSendable : List ℕ → Type 0
IsSendable piece = (9 ≤ length piece) × (length piece ≤ 249)

abbrev pub AreSendable : List (List ℕ) → Type 0
AreSendable pieces = AllByRecursion IsSendable pieces

-- the same, of pieces as they are stored
abbrev pub AreAsdus : List (ArrayVec ℕ) → Type 0
AreAsdus pieces = AllByRecursion (λ p. IsSendable p.items) pieces

-- how a queue is kept: the mark is within the pieces, each can be sent, and its ring has as many
-- places as it, or more
pub record IsSound (pieces : List (ArrayVec ℕ)) (mark places capacity : ℕ) : Type 0 where
  pub within : mark ≤ length pieces
  pub asdus : AreAsdus pieces
  pub room : places ≤ capacity
