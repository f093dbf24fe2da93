use Rattle.apci.specs.Borrowed.{owned}
use Rattle.gateway.specs.Phases.{Judged}
use Rattle.gateway.proofs.Confirming.{awaits}
use Rattle.gateway.proofs.Judgements.{judged_on, judged_closes}
use Rattle.gateway.proofs.engine.Gateway.take_apdu.Goals as goal

pub returns-in-Some-clause-kept : goal.returns-in-Some-clause-kept
returns-in-Some-clause-kept g c = λ p rest h.
    c.shut.ensures.kept p (judged_closes p _ c.args.self.now c.judge.new.self
    (owned c.args.apdu) c.in-Some.cause rest c.requires.open c.requires.fits c.requires.whole
    c.in-Some.ensures h)
    rest

pub returns-then-not-flush-clause-kept : goal.returns-then-not-flush-clause-kept
returns-then-not-flush-clause-kept g c = λ p rest h.
    c.if-not-flush.ensures.kept p rest Judged tt (judged_on p _ c.args.self.now c.judge.new.self
    (owned c.args.apdu) rest c.requires.open c.requires.fits c.requires.whole c.in_default.ensures
    h)

pub returns-clause-kept : goal.returns-clause-kept
returns-clause-kept g c = λ p rest h.
    awaits p _ c.flush.new.self rest c.if-not-flush.ensures.confirmed c.if-not-flush.ensures.spent
    c.if-not-flush.ensures.pulled (c.if-not-flush.ensures.kept p rest Judged tt
    (judged_on p _ c.args.self.now c.judge.new.self
    (owned c.args.apdu) rest c.requires.open c.requires.fits c.requires.whole c.in_default.ensures
    h))
