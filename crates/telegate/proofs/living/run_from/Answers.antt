use Rattle.std.proofs.Common.{rules, ◌≡◌, Some, is_some, ap, refl}
use Rattle.gateway.specs.Agrees.{Follows, Rests}
use Rattle.gateway.specs.Setups.{setup_of}
use Rattle.telegate.specs.Kept.{HasLivedOn}
use Rattle.telegate.specs.Living.{HasLived, IsPortOf, IsPortOfRun}
use Rattle.telegate.proofs.RunPorts.{port_of_run}
use Rattle.telegate.proofs.WholeRuns.{served_whole}
use Rattle.telegate.proofs.living.run_from.Goals as goal

pub returns-clause-lived : goal.returns-clause-lived
returns-clause-lived g c =
    let fixed : IsPortOf c.args.config.now c.args.wishes.allow_list
    (is_some c.args.begun.origin.moment) c.live.result.run_log.port.port.ends.port =
    search rules in
    let port = port_of_run c.args.config.now c.args.wishes.allow_list
    (is_some c.args.begun.origin.moment) c.live.result.run_log.port.port.ends.port
    _ fixed c.live.ensures.shown.port in
    record {
      behind = search rules;
      port_is = port;
      over = search rules;
      lived = λ follows rests. record {
        port_is = port;
        over = search rules;
        faithful = search rules;
        recorded = search rules;
      };
    }

pub returns-clause-served : goal.returns-clause-served
returns-clause-served g c =
    let served = c.live.ensures.served in
    served_whole _ _ _ _ _ c.args.begun.origin.before.entries c.args.scribes.pen
    c.keeper_between-keeper.result
    c.args.begun.origin.gateway _ _ served.0 _ _ _ _
    (refl, c.keeper_between-keeper.ensures.begun) c.requires.behind
    (ap Some c.keeper_between-keeper.ensures.log)
    c.requires.new served.1
