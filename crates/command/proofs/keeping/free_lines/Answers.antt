use Rattle.std.proofs.Common.{◌≡◌, ◌++◌, ◌+◌, sym, subst, map, drop, arith}
use Rattle.command.specs.State.{free_line}
use Rattle.command.proofs.Kept.{lines_step}
use Rattle.command.proofs.keeping.free_lines.Goals as goal

pub loop-i-preserved : goal.loop-i-preserved
loop-i-preserved c = record {
  whole = subst (λ ys. ys ++ map free_line (drop (c.loop-i._i + 1) c.args.stations.now)
      ≡ map free_line c.args.stations.now) (sym c.push_reserved.ensures.items)
      (lines_step c.loop-i.lines.items c.loop-i._i c.args.stations.now
      (map free_line c.args.stations.now) c.loop-i.invariant.whole c.loop-i-test.true);
  count = omega (arith, c.loop-i.invariant.count, c.push_reserved.ensures.len);
  capacity = omega (arith, c.loop-i.invariant.capacity, c.push_reserved.ensures.capacity);
}
