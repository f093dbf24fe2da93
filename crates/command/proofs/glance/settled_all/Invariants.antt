use Rattle.std.proofs.Common.{◌≡◌, ◌≤◌, ◌++◌, map, drop}
use Rattle.arrayvec.specs.ArrayVec.{array_vec_len}
use Rattle.command.specs.Refusals.{settled}
use Rattle.command.proofs.glance.settled_all.Given as goal

abbrev pub invariant-loop-selection : goal.invariant-loop-selection
invariant-loop-selection l = record {
  whole : l.all.items ++ map settled (drop l.selection-index l.selections)
      ≡ map settled l.selections;
  few : array_vec_len l.all ≤ l.selection-index;
}
