use Rattle.gateway.specs.Setups.{setup_of}
use Rattle.gateway.proofs.Starting.{logged_follows, nothing_rests}
use Rattle.gateway.proofs.runs.drive.Goals as goal

pub returns-clause-faithful : goal.returns-clause-faithful
returns-clause-faithful g c = λ e.
    let p = setup_of c.args.config.now in
    c.drive_on.ensures.faithful p
    (logged_follows p c.in_ok-gateway.gateway _ c.in_ok-gateway.ensures.begins e)
    (nothing_rests p _ e)

pub returns-clause-rests : goal.returns-clause-rests
returns-clause-rests g c = λ e.
    let p = setup_of c.args.config.now in
    c.drive_on.ensures.rests p
    (logged_follows p c.in_ok-gateway.gateway _ c.in_ok-gateway.ensures.begins e)
    (nothing_rests p _ e)

pub returns-clause-order : goal.returns-clause-order
returns-clause-order g c = λ e.
    let p = setup_of c.args.config.now in
    c.drive_on.ensures.order c.args.config.now
    (logged_follows p c.in_ok-gateway.gateway _ c.in_ok-gateway.ensures.begins e)
    (nothing_rests p _ e)
