use Rattle.std.proofs.Common.{◌∙◌, ◌-◌, ap, take}
use Rattle.traces.proofs.BlockLemmas.{moved}
use Rattle.traces.proofs.blocks.shift.Goals as goal

pub returns-clause-moved : goal.returns-clause-moved
returns-clause-moved c =
    ap (take (c.args.end - c.args.start)) c.copy_within.ensures.items
    ∙ moved c.args.buf.now.items c.args.start c.args.end c.requires.order c.requires.within
