use Rattle.std.proofs.Common.{◌≡◌, ◌≤◌, ◌-◌, ◌++◌, length, take, drop}
use Rattle.std.specs.List.{filter_map}
use Rattle.command.specs.Selection.{advanced as next_of}
use Rattle.command.proofs.keeping.advance_all.Given as goal

-- those before the place have heeded the sign, and the others haven't
abbrev pub invariant-selections : goal.invariant-selections
invariant-selections l = record {
  whole : take l.place l.selections.items
      ++ filter_map (next_of l.select_ms l.sign) (drop l.place l.selections.items)
      ≡ filter_map (next_of l.select_ms l.sign) l.fn.selections.items;
  within : l.place ≤ length l.selections.items;
}

abbrev pub decreases-selections : goal.decreases-selections
decreases-selections l = length l.selections.items - l.place
