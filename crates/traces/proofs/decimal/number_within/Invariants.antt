use Rattle.std.proofs.Common.{◌≡◌, ◌<◌, ◌^◌, take, Some}
use Rattle.traces.specs.Fields.{digits_after}
use Rattle.traces.proofs.decimal.number_within.Given as goal

abbrev pub invariant-loop-i : goal.invariant-loop-i
invariant-loop-i l = record {
  read : digits_after 0 (take l.i l.text) ≡ Some l.value;
  small : l.value < 10 ^ l.i;
}
