use Rattle.ft12.proofs.Stages.{end_wrong}
use Rattle.ft12.proofs.stage.Summed.at_end.Goals as goal

pub returns-then-octet-ne-END : goal.returns-then-octet-ne-END
returns-then-octet-ne-END c = λ size kept summed.
    rw (c.head_len.ensures.all c.args.self.len, c.from.ensures)
    (end_wrong size c.args.self kept c.args.octet summed c.ranges.octet.fits c.if-octet-ne-END.true)
