use Rattle.std.proofs.Common.{◌≡◌, ◌≤◌, ◌+◌, length, drop}
use Rattle.std.specs.List.{filter_map}
use Rattle.command.specs.Selection.{advanced as next_of}
use Rattle.command.specs.declared.selection.Sign.TheVariants.{Over}
use Rattle.command.proofs.keeping.count_others.Given as goal

abbrev pub invariant-loop-selection : goal.invariant-loop-selection
invariant-loop-selection l = record {
  counted : l.count
      + length (filter_map (next_of l.select_ms (Over l.fn.target))
      (drop l.selection-index l.selections))
      ≡ length (filter_map (next_of l.select_ms (Over l.fn.target)) l.selections);
  few : l.count ≤ l.selection-index;
}
