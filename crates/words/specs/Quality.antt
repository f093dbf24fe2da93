-- Quality descriptors in words (IEC 60870-5-101, 7.2.6.1 to 7.2.6.3): IV in bit 7, NT in bit 6, SB
-- in bit 5, BL in bit 4, and OV in bit 0.
use Rattle.std.specs.Prelude.{ℕ, codes, List, ◌++◌}
use Rattle.words.specs.Numbers.{mark}

-- where a value came from
unfoldable pub origin : ℕ → List ℕ
origin q = mark 5 q (codes ", substituted") ++ mark 4 q (codes ", blocked")

-- whether it counts
unfoldable pub validity : ℕ → List ℕ
validity q = mark 7 q (codes ", invalid") ++ mark 6 q (codes ", not topical")

-- of a single or a double point
unfoldable pub point_quality : ℕ → List ℕ
point_quality q = validity q ++ origin q

-- of a measured value, a step position and a bitstring
unfoldable pub quality : ℕ → List ℕ
quality q = point_quality q ++ mark 0 q (codes ", overflow")
