use Rattle.std.proofs.Common.{◌≡◌, ◌++◌, map, drop, length, vec_len, vec_capacity}
use Rattle.command.specs.State.{free_line}
use Rattle.command.proofs.keeping.free_lines.Given as goal

abbrev pub invariant-loop-i : goal.invariant-loop-i
invariant-loop-i l = record {
  whole : l.lines.items ++ map free_line (drop l._i l.stations) ≡ map free_line l.stations;
  count : vec_len l.lines ≡ l._i;
  capacity : vec_capacity l.lines ≡ length l.stations;
}
