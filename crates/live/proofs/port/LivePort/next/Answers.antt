use Rattle.std.proofs.Common.{ap, ◌∙◌}
use Rattle.live.specs.Ends.{fixed_of}
use Rattle.live.proofs.Runs.{turned_fixed, turned_on}
use Rattle.live.proofs.port.LivePort.next.Goals as goal

pub invariant_of-self : goal.invariant_of-self
invariant_of-self g c =
    turned_on c.self.inside.ends c.turn_on.new.self c.turn_on.result c.turn_on.new.buf
    c.turn_on.ensures.turns c.self.invariant

pub returns-clause-script : goal.returns-clause-script
returns-clause-script g c =
    turned_fixed _ _ _ _ c.turn_on.ensures.turns ∙ ap fixed_of c.self.view_is
