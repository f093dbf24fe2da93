use Rattle.std.proofs.Common.{arith}
use Rattle.std.specs.BTreeMap.{get}
use Rattle.std.specs.Ordering.{nat_cmp}
use Rattle.std.proofs.lemmas.Grind.{common_steps}
use Rattle.sim.proofs.Numbering.{some_sent}
use Rattle.sim.proofs.numbered.Numbered.is_sent_at.Goals as goal

pub returns : goal.returns
returns c = grind (
  arith,
  common_steps,
  some_sent c.self.inside.directives.items c.args.call (get nat_cmp c.self.inside.sends c.args.call)
      (c.self.invariant.sends c.args.call),
)
