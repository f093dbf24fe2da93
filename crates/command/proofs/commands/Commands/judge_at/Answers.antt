use Rattle.std.proofs.Common.{sym, ◌∙◌, ap}
use Rattle.command.specs.Refusals.{seen_by, seen_admitted}
use Rattle.command.proofs.commands.Commands.judge_at.Goals as goal

-- a command without a fault is judged by what was seen
pub returns-in-None : goal.returns-in-None
returns-in-None c =
    c.admit_at.ensures
    ∙ (ap (λ m. seen_admitted c.args.self.now m c.args.now c.args.glance.now) c.read_command.ensures
    ∙ ap (λ f. seen_by f c.args.octets.now c.args.now c.args.wall c.args.self.now c.args.glance.now)
    (sym c.in-None.is ∙ c.fault.ensures.value))
