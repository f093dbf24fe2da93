use Rattle.std.proofs.Common.{◌≡◌, ◌∷◌, [], sym, subst}
use Rattle.std.specs.Prelude.{IfSome}
use Rattle.session.specs.declared.kinds.Close.TheVariants.{Replaced}
use Rattle.gateway.specs.Log.{with_news, Went, Closed}
use Rattle.gateway.specs.Traffic.{IsFaithful}
use Rattle.gateway.proofs.Events.{logged_replaced, logged_unreplaced}
use Rattle.gateway.proofs.engine.Gateway.replace.Goals as goal

pub returns-then-not-put-clause-kept : goal.returns-then-not-put-clause-kept
returns-then-not-put-clause-kept g c = λ p s now fits b h.
    subst (λ logged. IfSome logged (IsFaithful p)) (sym c.if-not-put.ensures.logged)
    (logged_unreplaced p _ s c.args.self.now now fits c.line_keeps_the_procedures.ensures b h)

pub returns-clause-kept : goal.returns-clause-kept
returns-clause-kept g c = λ p s now fits b h.
    let put : g.P.Port.log c.put.new.self
    ≡ with_news (g.P.Port.log c.args.port.now) (Went c.moment.result (Closed Replaced)
    ∷ []) = c.if-not-put.ensures.logged in
    logged_replaced p _ _ s c.args.self.now c.renew.new.self now _ fits
    c.line_keeps_the_procedures.ensures b
    c.requires.open c.renew.ensures put c.moment.ensures h
