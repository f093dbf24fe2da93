use Rattle.std.proofs.Common.{◌≡◌, subst}
use Rattle.std.specs.Prelude.{option_map}
use Rattle.command.specs.Judging.{Judgement, by_fault, admitted}
use Rattle.command.specs.Octets.{answer}
use Rattle.command.proofs.commands.Commands.refusal_cause.Goals as goal

pub returns-in-None-clause-judged : goal.returns-in-None-clause-judged
returns-in-None-clause-judged c =
    let octets = c.args.octets.now in
    subst
    (λ f. ◌≡◌ {A = Judgement} (
      option_map (λ cause. answer cause octets) c.admit.result,
      c.admit.new.self,
    )
    (by_fault f octets c.args.now c.args.self.now)) c.in-None.ensures.value
    (subst (λ command. ◌≡◌ {A = Judgement}
    (option_map (λ cause. answer cause octets) c.admit.result, c.admit.new.self)
    (admitted octets command c.args.now c.args.self.now)) c.read_command.ensures
    c.admit.ensures.judged)
