use Rattle.std.proofs.Common.{◌∙◌, ap}
use Rattle.command.proofs.Glances.{judged_by_another}
use Rattle.command.proofs.commands.Commands.refusal_at.Goals as goal

pub returns-clause-rule : goal.returns-clause-rule
returns-clause-rule c = λ s same is. ap (λ heeded. heeded.0) (c.judge_at.ensures
    ∙ judged_by_another c.args.octets.now c.args.now c.args.wall c.args.glance.now c.args.self.now s
    same is)

pub returns-clause-after : goal.returns-clause-after
returns-clause-after c = λ s same is. ap (λ heeded. heeded.1) (c.judge_at.ensures
    ∙ judged_by_another c.args.octets.now c.args.now c.args.wall c.args.glance.now c.args.self.now s
    same is)
