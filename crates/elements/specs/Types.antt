-- The types of ASDU that this gateway carries (IEC 60870-5-101, 7.2.1 and 7.3): one table.
use Rattle.std.specs.Prelude.{ℕ, ℤ, pos, ◌-ℤ◌, ◌%◌, Bool, true, false, nat_lt, if◌then◌else◌, List}
use Rattle.std.specs.Prelude.{[], ◌∷◌, Option, ◌==◌, find, slice_index}
use Rattle.elements.specs.Layouts.{short_at, word_at, long_at}
use Rattle.elements.specs.declared.types.TypeId.{TypeId}
use Rattle.elements.specs.declared.types.TypeId.TheVariants.{MSpNa1, MDpNa1, MStNa1, MBoNa1, MMeNa1}
use Rattle.elements.specs.declared.types.TypeId.TheVariants.{MMeNb1, MMeNc1, MItNa1, MSpTb1, MDpTb1}
use Rattle.elements.specs.declared.types.TypeId.TheVariants.{MStTb1, MBoTb1, MMeTd1, MMeTe1, MMeTf1}
use Rattle.elements.specs.declared.types.TypeId.TheVariants.{MItTb1, MEiNa1, CScNa1, CDcNa1, CRcNa1}
use Rattle.elements.specs.declared.types.TypeId.TheVariants.{CSeNa1, CSeNb1, CIcNa1, CScTa1, CDcTa1}
use Rattle.elements.specs.declared.types.TypeId.TheVariants.{CRcTa1, CSeTa1, CSeTb1}

-- A type's octet, how many octets its element has, whether a time tag follows each, and whether it
-- goes in monitor direction.
pub record Row : Type 0 where
  pub code : ℕ
  pub size : ℕ
  pub tagged : Bool
  pub monitor : Bool

abbrev pub row : TypeId → Row
row MSpNa1 = record { code = 1; size = 1; tagged = false; monitor = true }
row MDpNa1 = record { code = 3; size = 1; tagged = false; monitor = true }
row MStNa1 = record { code = 5; size = 2; tagged = false; monitor = true }
row MBoNa1 = record { code = 7; size = 5; tagged = false; monitor = true }
row MMeNa1 = record { code = 9; size = 3; tagged = false; monitor = true }
row MMeNb1 = record { code = 11; size = 3; tagged = false; monitor = true }
row MMeNc1 = record { code = 13; size = 5; tagged = false; monitor = true }
row MItNa1 = record { code = 15; size = 5; tagged = false; monitor = true }
row MSpTb1 = record { code = 30; size = 1; tagged = true; monitor = true }
row MDpTb1 = record { code = 31; size = 1; tagged = true; monitor = true }
row MStTb1 = record { code = 32; size = 2; tagged = true; monitor = true }
row MBoTb1 = record { code = 33; size = 5; tagged = true; monitor = true }
row MMeTd1 = record { code = 34; size = 3; tagged = true; monitor = true }
row MMeTe1 = record { code = 35; size = 3; tagged = true; monitor = true }
row MMeTf1 = record { code = 36; size = 5; tagged = true; monitor = true }
row MItTb1 = record { code = 37; size = 5; tagged = true; monitor = true }
row MEiNa1 = record { code = 70; size = 1; tagged = false; monitor = true }
row CScNa1 = record { code = 45; size = 1; tagged = false; monitor = false }
row CDcNa1 = record { code = 46; size = 1; tagged = false; monitor = false }
row CRcNa1 = record { code = 47; size = 1; tagged = false; monitor = false }
row CSeNa1 = record { code = 48; size = 3; tagged = false; monitor = false }
row CSeNb1 = record { code = 49; size = 3; tagged = false; monitor = false }
row CIcNa1 = record { code = 100; size = 1; tagged = false; monitor = false }
row CScTa1 = record { code = 58; size = 1; tagged = true; monitor = false }
row CDcTa1 = record { code = 59; size = 1; tagged = true; monitor = false }
row CRcTa1 = record { code = 60; size = 1; tagged = true; monitor = false }
row CSeTa1 = record { code = 61; size = 3; tagged = true; monitor = false }
row CSeTb1 = record { code = 62; size = 3; tagged = true; monitor = false }

-- each type
abbrev pub types : List TypeId
types =
    MSpNa1 ∷ MDpNa1 ∷ MStNa1 ∷ MBoNa1 ∷ MMeNa1 ∷ MMeNb1 ∷ MMeNc1 ∷ MItNa1 ∷ MSpTb1 ∷ MDpTb1 ∷ MStTb1
    ∷ MBoTb1 ∷ MMeTd1 ∷ MMeTe1 ∷ MMeTf1 ∷ MItTb1 ∷ MEiNa1 ∷ CScNa1 ∷ CDcNa1 ∷ CRcNa1 ∷ CSeNa1
    ∷ CSeNb1 ∷ CIcNa1 ∷ CScTa1 ∷ CDcTa1 ∷ CRcTa1 ∷ CSeTa1 ∷ CSeTb1 ∷ []

-- the type that an octet names
unfoldable pub type_of : ℕ → Option TypeId
type_of code = find (λ t. (row t).code == code) types

-- the number that x, of 7 bits, is in two's complement
abbrev pub seven_bits : ℕ → ℤ
seven_bits x = if nat_lt x 64 then pos x else pos x -ℤ pos 128

-- The value that an element's octets show (7.2.6). Which values are shown so is this gateway's own
-- profile.
abbrev pub value_shown : TypeId → List ℕ → ℤ
value_shown MSpNa1 xs = pos (slice_index xs 0 % 2)
value_shown MDpNa1 xs = pos (slice_index xs 0 % 4)
value_shown MStNa1 xs = seven_bits (slice_index xs 0 % 128)
value_shown MBoNa1 xs = pos (word_at xs)
value_shown MMeNa1 xs = short_at xs
value_shown MMeNb1 xs = short_at xs
value_shown MMeNc1 xs = pos (word_at xs)
value_shown MItNa1 xs = long_at xs
value_shown MSpTb1 xs = pos (slice_index xs 0 % 2)
value_shown MDpTb1 xs = pos (slice_index xs 0 % 4)
value_shown MStTb1 xs = seven_bits (slice_index xs 0 % 128)
value_shown MBoTb1 xs = pos (word_at xs)
value_shown MMeTd1 xs = short_at xs
value_shown MMeTe1 xs = short_at xs
value_shown MMeTf1 xs = pos (word_at xs)
value_shown MItTb1 xs = long_at xs
value_shown MEiNa1 xs = pos (slice_index xs 0 % 128)
value_shown CScNa1 xs = pos (slice_index xs 0 % 2)
value_shown CDcNa1 xs = pos (slice_index xs 0 % 4)
value_shown CRcNa1 xs = pos (slice_index xs 0 % 4)
value_shown CSeNa1 xs = short_at xs
value_shown CSeNb1 xs = short_at xs
value_shown CIcNa1 xs = pos (slice_index xs 0)
value_shown CScTa1 xs = pos (slice_index xs 0 % 2)
value_shown CDcTa1 xs = pos (slice_index xs 0 % 4)
value_shown CRcTa1 xs = pos (slice_index xs 0 % 4)
value_shown CSeTa1 xs = short_at xs
value_shown CSeTb1 xs = short_at xs
