use Rattle.segments.proofs.HeldLemmas.{nothing_held, nothing_summed}
use Rattle.segments.proofs.writer.Writer.begin.Goals as goal

pub invariant_of-result-clause-summed : goal.invariant_of-result-clause-summed
invariant_of-result-clause-summed g c =
    nothing_summed 0xffffffff _ _ _ c.in-Ok.ensures.sized c.new.ensures.items c.new-in-Ok.ensures

pub returns-in-Ok-clause-empty : goal.returns-in-Ok-clause-empty
returns-in-Ok-clause-empty g c = nothing_held _ _ c.in-Ok.ensures.sized c.new.ensures.items
