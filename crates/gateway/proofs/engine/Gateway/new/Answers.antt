use Rattle.std.proofs.Common.{Some, [], refl}
use Rattle.gateway.proofs.Starting.{timely, first_follows}
use Rattle.gateway.proofs.engine.Gateway.new.Goals as goal

pub returns-clause-begins : goal.returns-clause-begins
returns-clause-begins c =
    let config = c.args.config.now in
    first_follows config c.in_ok-gateway.gateway (Some []) c.master_matches_the_log.ensures.start
    c.session_keeps_the_standard.ensures c.commands_keep_the_rules.ensures
    (record {
      others = c.faultless_commands_pass.ensures.others;
      executes_pass = c.faultless_commands_pass.ensures.executes;
    })
    c.line_keeps_the_procedures.ensures c.stations-stations.ensures.rules
    (timely config.tcp) c.in_ok-gateway.ensures refl
