use Rattle.std.proofs.Common.{rules}
use Rattle.link.proofs.Assembling.{inner_fed, inner_due, single_due}
use Rattle.link.proofs.master.inner_in.Goals as goal

pub returns-then-is_single-clause-due : goal.returns-then-is_single-clause-due
returns-then-is_single-clause-due c = λ lt. single_due c.front_is_computed.ensures.spelled _ _
    (search (rules, c.is_empty.ensures, c.if-is_empty.true))

pub returns-clause-all : goal.returns-clause-all
returns-clause-all c = λ all. inner_fed c.front_is_computed.ensures.only _ _ _ _ _ _ _
    c.feed_inner.ensures.listening
    c.feed_inner.ensures.deaf all

pub returns-clause-due : goal.returns-clause-due
returns-clause-due c = λ lt. inner_due c.front_is_computed.ensures.only _ _ _ _ _ _ _
    c.feed_inner.ensures.listening
    c.feed_inner.ensures.deaf lt
