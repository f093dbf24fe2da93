use Rattle.std.proofs.Common.{◌≡◌, Some}
use Rattle.gateway.specs.Setups.{setup_of}
use Rattle.gateway.specs.State.{State}
use Rattle.gateway.specs.Agrees.{Follows}
use Rattle.gateway.proofs.ReadBack.{holds_of}
use Rattle.gateway.proofs.engine.Gateway.read_state.Goals as goal

pub returns-clause-follows : goal.returns-clause-follows
returns-clause-follows g c = λ s rest log savable follows e.
    holds_of (λ (x : State). Follows (setup_of c.args.config.now) x (Some log)) s
    (g.L.Lines.coming c.read_parts.new.lines ≡ rest) c.read_parts.result
    (c.read_parts.ensures.back s rest savable (c.settings_are_kept.ensures c.args.config.now s log
    follows) e) follows
