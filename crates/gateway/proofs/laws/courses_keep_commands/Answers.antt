use Rattle.gateway.proofs.Reached.{kept_commands}
use Rattle.gateway.proofs.laws.courses_keep_commands.Goals as goal

pub returns : goal.returns
returns c = λ p log course runs.
    kept_commands p c.commands_keep_the_rules.ensures (record {
      others = c.faultless_commands_pass.ensures.others;
      executes_pass = c.faultless_commands_pass.ensures.executes;
    }) log course runs
