-- The format that a first control octet names (IEC 60870-5-104, 5): its two lowest bits, and of a U
-- format all.
use Rattle.std.specs.Prelude.{◌≡◌, ℕ, ◌%◌, None}
use Rattle.apci.specs.declared.control.Format.{Format}
use Rattle.apci.specs.declared.control.Format.TheVariants as format
use Rattle.apci.specs.Spelling.{function}
use Rattle.apci.specs.Reading.{function_of}

abbrev pub IsFormat : Format → ℕ → Type 0
IsFormat format.I o = o % 2 ≡ 0
IsFormat format.S o = o ≡ 0x01
IsFormat (format.U f) o = o ≡ function f
IsFormat format.Unknown o = (o % 2 ≡ 1) × (o ≡ 0x01 → ⊥) × (function_of o ≡ None)
