use Rattle.std.proofs.Common.{◌≡◌, ◌+◌, ◌*◌, ◌<◌, ℕ, true, get_or, length, Some}
use Rattle.hex.specs.Hex.{hex_digit_value}
use Rattle.traces.specs.FirstLines.{Paired}
use Rattle.traces.proofs.octets.write_wide_block.Given as goal

-- each value is that of its digit, if all so far are digits
abbrev pub invariant-digits : goal.invariant-digits
invariant-digits l = record {
  known : l.are ≡ true → (k : ℕ) → k < l.i → hex_digit_value (get_or l.text (2 * l.from + k) 0)
      ≡ Some (get_or l.values k 0);
  small : (k : ℕ) → k < l.i → get_or l.values k 0 < 16;
  long : length l.values ≡ 32;
}

-- all so far are decoded if all are digits
abbrev pub invariant-pairs : goal.invariant-pairs
invariant-pairs l = record {
  all : l.are ≡ true → Paired l.text l.buf (l.from + l.i);
  before : Paired l.text l.buf l.from;
}
