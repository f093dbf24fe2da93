use Rattle.std.proofs.Common.{◌≡◌, ◌++◌, take, drop, map, length, true, List, ℕ, vec_len}
use Rattle.std.proofs.Common.{vec_capacity}
use Rattle.std.specs.List.{list_all}
use Rattle.command.proofs.restoring.read_items.Given as goal

abbrev pub invariant-loop-i : goal.invariant-loop-i
invariant-loop-i g l = record {
  law : (xs : List g.row.T.Denot) (rest : List (List ℕ)) → length xs ≡ l.fn.count
      → list_all g.T.Saved.is_savable xs ≡ true
      → g.L.Lines.coming l.fn.lines ≡ map g.T.Saved.numbers xs ++ rest
      → (l.items.items ≡ take l._i xs)
      × (g.L.Lines.coming l.lines ≡ map g.T.Saved.numbers (drop l._i xs) ++ rest);
  exact : g.L.Lines.coming l.fn.lines
      ≡ map g.T.Saved.numbers l.items.items ++ g.L.Lines.coming l.lines;
  count : vec_len l.items ≡ l._i;
  room : vec_capacity l.items ≡ l.fn.most;
}
