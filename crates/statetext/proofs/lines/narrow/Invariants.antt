use Rattle.std.proofs.Common.{◌≡◌, take}
use Rattle.statetext.proofs.lines.narrow.Given as goal

abbrev pub invariant-loop-number : goal.invariant-loop-number
invariant-loop-number l = l.line.items ≡ take l.number-index l.numbers
