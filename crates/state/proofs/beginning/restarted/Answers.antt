use Rattle.std.proofs.Common.{◌∙◌, ◌∷◌, ℕ, Some, ap, subst, sym}
use Rattle.gateway.specs.Agrees.{Follows}
use Rattle.gateway.specs.Log.{Came, Log, Restarted}
use Rattle.state.proofs.beginning.restarted.Goals as goal

pub returns-clause-follows : goal.returns-clause-follows
returns-clause-follows c p follows rests =
    subst (λ (log : Log). Follows p c.restart.new.self (Some log))
    (sym (c.restarted-before.ensures
    ∙ ap (λ (moment : ℕ). Came moment Restarted ∷ c.args.arrived.before.entries)
    c.moment-moment.ensures))
    (c.restart.ensures.follows p c.args.arrived.before.entries follows rests)
