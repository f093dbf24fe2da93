use Rattle.std.proofs.Common.{◌≡◌, ◌≤◌, ◌+◌, drop}
use Rattle.command.specs.Judging.{waiting_count}
use Rattle.command.proofs.keeping.count_waiting.Given as goal

abbrev pub invariant-loop-command : goal.invariant-loop-command
invariant-loop-command l = record {
  counted : l.count + waiting_count l.station (drop l.command-index l.waiting)
      ≡ waiting_count l.station l.waiting;
  few : l.count ≤ l.command-index;
}
