use Rattle.session.specs.Session.{is_open}
use Rattle.gateway.proofs.Events.{logged_cut, logged_tick, logged_wall, logged_bytes}
use Rattle.gateway.proofs.engine.Gateway.take_connection_event.Goals as goal

pub returns-in-Line-clause-kept : goal.returns-in-Line-clause-kept
returns-in-Line-clause-kept g c = λ p s now b h. c.end_line.ensures.kept p s now _
    (rw c.in-Line.is at b)
    (rw c.in-Line.is at h)

pub returns-in-Open-clause-kept : goal.returns-in-Open-clause-kept
returns-in-Open-clause-kept g c = λ p s now b h. c.begin.ensures.kept p s now c.args.fits
    (rw c.in-Open.is at b)
    (rw c.in-Open.is at h)

pub returns-in-Bytes-clause-kept : goal.returns-in-Bytes-clause-kept
returns-in-Bytes-clause-kept g c = λ p s now b h.
    c.take_bytes.ensures.kept p (logged_bytes (is_open c.args.self.now.centre.session) p _ s
    c.args.self.now now
    c.in-Bytes.octets.now c.args.fits c.line_keeps_the_procedures.ensures
    (rw c.in-Bytes.is at b) Rattle.std.proofs.Common.refl (rw c.in-Bytes.is at h))

pub returns-in-Cut-clause-kept : goal.returns-in-Cut-clause-kept
returns-in-Cut-clause-kept g c = λ p s now b h.
    logged_cut p _ s c.args.self.now c.disconnect.new.self now c.args.fits
    c.line_keeps_the_procedures.ensures
    (rw c.in-Cut.is at b) c.disconnect.ensures (rw c.in-Cut.is at h)

pub returns-in-Tick-clause-kept : goal.returns-in-Tick-clause-kept
returns-in-Tick-clause-kept g c = λ p s now b h.
    logged_tick p _ s c.args.self.now now c.args.fits c.line_keeps_the_procedures.ensures
    (rw c.in-Tick.is at b)
    (rw c.in-Tick.is at h)

pub returns-in-Wall-clause-kept : goal.returns-in-Wall-clause-kept
returns-in-Wall-clause-kept g c = λ p s now b h.
    logged_wall p _ s c.args.self.now c.set_wall.new.self now c.in-Wall.number c.args.fits
    c.line_keeps_the_procedures.ensures (rw c.in-Wall.is at b) c.set_wall.ensures
    (rw c.in-Wall.is at h)
