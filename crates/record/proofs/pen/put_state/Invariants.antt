-- The sheet took and missed nothing.
use Rattle.std.proofs.Common.{◌≡◌}
use Rattle.record.proofs.pen.put_state.Given as goal

abbrev pub invariant-putting : goal.invariant-putting
invariant-putting g l = record {
  taken : g.W.RecordSheet.taken l.sheet ≡ g.W.RecordSheet.taken l.fn.sheet;
  missed : g.W.RecordSheet.missed l.sheet ≡ g.W.RecordSheet.missed l.fn.sheet;
}
