use Rattle.std.proofs.Common.{◌≡◌, ◌++◌, take, map, true}
use Rattle.std.specs.List.{list_all}
use Rattle.command.proofs.saving.put_items.Given as goal

abbrev pub invariant-loop-item : goal.invariant-loop-item
invariant-loop-item g l = record {
  lines : g.S.Sheet.written l.sheet
      ≡ g.S.Sheet.written l.fn.sheet ++ map g.T.Saved.numbers (take l.item-index l.items);
  savable : list_all g.T.Saved.is_savable (take l.item-index l.items) ≡ true;
}
