use Rattle.std.proofs.Common.{◌≡◌, ◌+◌, ◌*◌, ◌<◌, ℕ, get_or, length, slice_index}
use Rattle.traces.specs.Spelling.{IsSpelledTo}
use Rattle.traces.proofs.PrintLemmas.{HasDigits}
use Rattle.traces.proofs.printing.spell_block.Given as goal

-- each pair so far has the digits of its octet
abbrev pub invariant-octets : goal.invariant-octets
invariant-octets l = record {
  digits : (k : ℕ) → k < l.i → HasDigits (slice_index l.octets (l.from + k)) (get_or l.pairs k 0);
  long : length l.pairs ≡ 16;
}

-- and so far they are put
abbrev pub invariant-pairs : goal.invariant-pairs
invariant-pairs l = record {
  spelled : IsSpelledTo l.octets l.out (l.from + l.i);
  long : length l.out ≡ 2 * length l.octets;
}
