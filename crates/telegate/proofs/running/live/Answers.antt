use Rattle.std.proofs.Common.{◌∙◌, ap}
use Rattle.telegate.specs.Turns.{shown_to, stands}
use Rattle.telegate.proofs.Looks.{served_from}
use Rattle.telegate.proofs.running.live.Goals as goal

pub returns-clause-served : goal.returns-clause-served
returns-clause-served g c =
    let shown = shown_to c.args.scribes.lookout in
    let first = ap (λ l. stands c.args.gateway l.port l.logger shown) c.new-run_log.ensures
    ∙ ap (λ r. stands c.args.gateway r c.args.scribes.logger shown) c.new.ensures in (
      c.serve-ended.ensures.served.0,
      served_from _ _ _ _ _ _ _ _ first
          c.serve-ended.ensures.served.1,
    )
