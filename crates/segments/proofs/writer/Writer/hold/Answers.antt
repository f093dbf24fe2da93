use Rattle.segments.proofs.HeldLemmas.{held_more, summed_more}
use Rattle.segments.proofs.writer.Writer.hold.Goals as goal

pub returns-in-Ok-clause-put : goal.returns-in-Ok-clause-put
returns-in-Ok-clause-put g c =
    let s = c.args.self.now in
    held_more s.stored _ _ _ _ (s.sized c.requires) s.behind c.in-Ok.ensures.items

pub invariant_of-self-clause-summed : goal.invariant_of-self-clause-summed
invariant_of-self-clause-summed g c =
    let s = c.args.self.now in
    summed_more s.stored _ _ 0xffffffff _ _ _ _ (s.sized c.requires) s.behind c.in-Ok.ensures.items
    s.summed c.add.ensures
