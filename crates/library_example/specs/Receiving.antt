-- Frames of the line that carry data.
use Rattle.std.specs.Prelude.{ℕ, List}
use Rattle.ft12.specs.declared.frame.LinkSize.TheVariants.{One}
use Rattle.ft12.specs.declared.frame.Frame.TheVariants.{Data}
use Rattle.ft12.specs.Spelling.{IsLineFrame}

-- the octets are one frame of variable length with these octets of data
pub record IsFrameOf (body octets : List ℕ) : Type 0 where
  pub control : ℕ
  pub address : ℕ
  pub line : IsLineFrame One (Data control address (record { items = body })) octets
