use Rattle.std.proofs.Common.{◌≡◌, ◌∷◌, []}
use Rattle.gateway.specs.Log.{with_news, Went, Closed}
use Rattle.gateway.proofs.Put.{logged_closed}
use Rattle.gateway.proofs.engine.Gateway.close.Goals as goal

pub returns-then-went-clause-kept : goal.returns-then-went-clause-kept
returns-then-went-clause-kept g c =
    let put : g.P.Port.log c.put-went.new.self ≡ with_news (g.P.Port.log c.args.port.now)
    (Went c.moment.result (Closed c.args.cause) ∷ []) = c.if-went.ensures.logged in
    λ p phase h. rw (c.if-went.true) (logged_closed p _ _
    c.args.self.now _
    c.args.cause _ phase put c.moment.ensures c.disconnect.ensures h)
