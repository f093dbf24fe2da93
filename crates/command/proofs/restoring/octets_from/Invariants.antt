use Rattle.std.proofs.Common.{◌≡◌, ◌≤◌, take, length, true}
use Rattle.command.specs.Saved.{are_octets}
use Rattle.command.proofs.restoring.octets_from.Given as goal

-- The octets so far are the numbers so far, each below 256.
abbrev pub invariant-loop-number : goal.invariant-loop-number
invariant-loop-number g l = record {
  octets : l.octets.items ≡ take l.number-index l.numbers;
  small : are_octets (take l.number-index l.numbers) ≡ true;
  few : length l.numbers ≤ g.row.N;
}
