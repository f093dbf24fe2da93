use Rattle.delivery.proofs.AtEachMoment.{faithful_before}
use Rattle.delivery.specs.LinkLaws.{LinkLaws}
use Rattle.delivery.proofs.laws.promises_hold_at_each_moment.Goals as goal

pub returns : goal.returns
returns c = λ p newer log set f.
    let laws : LinkLaws = c.the_line_is_its_exchanges.ensures in
    faithful_before p laws c.waiting_commands_stay.ensures.mirrored set newer log f
