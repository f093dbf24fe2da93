use Rattle.std.proofs.Common.{◌≡◌, ◌*◌, ◌-◌, ◌≤◌, length}
use Rattle.traces.specs.Spelling.{IsSpelledTo}
use Rattle.traces.proofs.printing.spell_blocks.Given as goal

abbrev pub invariant-blocks-2 : goal.invariant-blocks-2
invariant-blocks-2 l = record {
  spelled : IsSpelledTo l.octets l.out l.done;
  within : l.done ≤ length l.octets;
  long : length l.out ≡ 2 * length l.octets;
}

abbrev pub decreases-blocks-2 : goal.decreases-blocks-2
decreases-blocks-2 l = length l.octets - l.done
