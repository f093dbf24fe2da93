use Rattle.std.proofs.Common.{◌≡◌, ◌++◌, take, drop, List, ℕ, length}
use Rattle.std.specs.List.{AllByRecursion}
use Rattle.link.specs.Turns.{StationState}
use Rattle.link.specs.Saved.{lines_of, FitsSavedStation, StandBefore}
use Rattle.link.proofs.saving.read_stations.Given as goal

abbrev pub invariant-loop-i : goal.invariant-loop-i
invariant-loop-i g l = record {
  back : (ss : List StationState) (rest : List (List ℕ)) → length ss ≡ l.fn.count
      → AllByRecursion FitsSavedStation ss
      → g.L.Lines.coming l.fn.lines ≡ lines_of ss ++ rest
      → (l.stations.items ≡ take l._i ss)
      × (g.L.Lines.coming l.lines ≡ lines_of (drop l._i ss) ++ rest);
  exact : StandBefore l.stations.items (g.L.Lines.coming l.fn.lines) (g.L.Lines.coming l.lines);
}
