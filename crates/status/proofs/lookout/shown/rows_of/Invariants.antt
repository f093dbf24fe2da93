use Rattle.std.proofs.Common.{◌≡◌, length}
use Rattle.status.proofs.Rows.{GoesOn}
use Rattle.status.proofs.lookout.shown.rows_of.Given as goal

abbrev pub invariant-loop-one : goal.invariant-loop-one
invariant-loop-one l = record {
  counted : length l.rows.items ≡ l.one-index;
  goes : GoesOn l.known l.watch.stations l.watch.traffic l.rows.items l.one-index l.stations
      l.traffics;
}
