-- All lines so far say state, and were taken.
use Rattle.std.proofs.Common.{◌≡◌, [], false}
use Rattle.record.proofs.OpeningLemmas.{Opened}
use Rattle.record.proofs.audit.opened.Given as goal

abbrev pub invariant-opening : goal.invariant-opening
invariant-opening g l = record {
  opened : Opened l.fn.blocks.coming l.blocks.coming false l.first [];
  goes_on : l.blocks.is_over ≡ false;
}
