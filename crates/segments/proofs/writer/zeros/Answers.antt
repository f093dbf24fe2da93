use Rattle.std.proofs.Common.{refl}
use Rattle.segments.proofs.HeldLemmas.{zeros_blank}
use Rattle.segments.proofs.writer.zeros.Goals as goal

pub returns-in-Ok-clause-blank : goal.returns-in-Ok-clause-blank
returns-in-Ok-clause-blank c =
    zeros_blank _ _ c.args.n refl (c.in-Ok.ensures.items_if_clones_equal (λ y e. cc))
