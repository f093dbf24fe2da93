use Rattle.std.proofs.Common.{◌≡◌, false, sym, ◌∙◌}
use Rattle.std.proofs.lemmas.Bool.{false≢true}
use Rattle.session.specs.Session.{is_open}
use Rattle.gateway.specs.Phases.{Idle}
use Rattle.gateway.proofs.Events.{logged_line, logged_overfull}
use Rattle.gateway.proofs.engine.Gateway.end_line.Goals as goal

pub returns-then-fits-clause-kept : goal.returns-then-fits-clause-kept
returns-then-fits-clause-kept g c =
    λ p s now octets b h. logged_line p _ s c.args.self.now now octets c.args.fits
    c.line_keeps_the_procedures.ensures (λ on. c.if-fits.true) b h

pub returns-then-not-is_open-clause-kept : goal.returns-then-not-is_open-clause-kept
returns-then-not-is_open-clause-kept g c = λ p s now octets b h.
    let shut : is_open c.args.self.now.centre.session ≡ false = sym c.is_open.ensures
    ∙ c.if-not-is_open.true in
    logged_line p _ s c.args.self.now now octets c.args.fits
    c.line_keeps_the_procedures.ensures
    (λ on. absurd (false≢true (sym shut ∙ on))) b h

pub returns-clause-kept : goal.returns-clause-kept
returns-clause-kept g c = λ p s now octets b h.
    c.close.ensures.kept p Idle (logged_overfull p _ s c.args.self.now now octets
    c.args.fits
    c.line_keeps_the_procedures.ensures c.if-fits.false (sym c.is_open.ensures
    ∙ c.if-not-is_open.false) b h)
