use Rattle.std.proofs.Common.{◌<◌, ◌^◌}
use Rattle.library_example.proofs.main.Given as goal

abbrev pub invariant-loop-line : goal.invariant-loop-line
invariant-loop-line l = record {
  can : (goal.iterator-loop-line).can_next l.line-iterator;
  finite : (goal.iterator-loop-line).is_finite l.line-iterator;
  sent : l.sent < 2 ^ 15;
}
