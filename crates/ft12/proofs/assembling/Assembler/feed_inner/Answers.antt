use Rattle.std.proofs.Common.{subst, IfSome}
use Rattle.ft12.specs.Assembly.{Assembly, ReceivesInner}
use Rattle.ft12.proofs.assembling.Assembler.feed_inner.Goals as goal

pub returns-then-take_data-clause-listening : goal.returns-then-take_data-clause-listening
returns-then-take_data-clause-listening c = c.take_data.ensures.taken c.if-take_data.true

-- nothing was taken: the assembler is as it was
pub returns-clause-listening : goal.returns-clause-listening
returns-clause-listening c =
    subst (λ (a : Assembly). IfSome a.so_far (λ so_far. ReceivesInner a.size so_far c.args.piece.now
    c.feed_stages.result a.looked c.feed_stages.new.self.looked c.feed_stages.new.self.so_far))
    (c.take_data.ensures.left c.if-take_data.false) c.feed_stages.ensures.listening
