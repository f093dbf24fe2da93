use Rattle.std.proofs.Common.{[], ap, sym, ◌∙◌, subst}
use Rattle.gateway.specs.Agrees.{Tracks}
use Rattle.gateway.specs.Phases.{Idle}
use Rattle.gateway.specs.State.{State}
use Rattle.gateway.proofs.Events.{reported_gap, no_gap_reported}
use Rattle.gateway.proofs.engine.Gateway.report_gap.Goals as goal

pub returns-in-None-clause-kept : goal.returns-in-None-clause-kept
returns-in-None-clause-kept g c = λ p h.
    subst (λ (x : State). Tracks p x (g.P.Port.log c.args.port.now) [] Idle)
    (sym (no_gap_reported c.args.self.now c.take_gap.new.self (sym c.in-None.ensures.gap)
    c.take_gap.ensures.state)) h

pub returns-in-Some-clause-kept : goal.returns-in-Some-clause-kept
returns-in-Some-clause-kept g c = λ p h.
    reported_gap c.put.result p (g.P.Port.log c.args.port.now)
    (g.P.Port.log c.put.new.self) c.args.self.now c.take_gap.new.self c.in-Some.gap c.moment.result
    (sym c.in-Some.ensures.gap)
    (c.moment.ensures ∙ ap (λ (x : State). x.moment) c.take_gap.ensures.state)
    c.take_gap.ensures.state
    c.put.ensures.logged h
