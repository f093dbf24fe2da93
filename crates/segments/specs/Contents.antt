-- What a segment has, apart from its seals (profile).
use Rattle.std.specs.Prelude.{ℕ, List}

-- the checkpoint, the writes behind it that have their seals, and the lines behind the last seal
pub record Contents : Type 0 where
  pub body : List ℕ
  pub writes : List (List ℕ)
  pub lines : List ℕ
