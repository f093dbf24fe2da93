use Rattle.ft12.proofs.Stages.{sum_wrong}
use Rattle.ft12.proofs.stage.Summed.at_sum.Goals as goal

pub returns-else-octet-self : goal.returns-else-octet-self
returns-else-octet-self c = λ size kept summed.
    rw (c.head_len.ensures.all c.args.self.len, c.from.ensures)
    (sum_wrong size c.args.self kept c.args.octet summed c.ranges.octet.fits c.if-octet-self.false)
