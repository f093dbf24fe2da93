use Rattle.std.proofs.Common.{◌∙◌, ap, refl}
use Rattle.std.specs.Prelude.{is_some}
use Rattle.command.proofs.Glances.{rules_are_answers}
use Rattle.command.proofs.commands.Commands.refusal_of.Goals as goal

pub returns-clause-judged : goal.returns-clause-judged
returns-clause-judged c =
    ap is_some (c.refusal_at.ensures.rule c.args.self.now (record {
      same_stations = refl;
      same_sizes = refl;
      same_select_ms = refl;
      same_max_age_ms = refl;
    }) c.glance-glance.ensures)
    ∙ rules_are_answers c.args.octets.now c.args.now c.args.wall c.args.self.now
