use Rattle.std.proofs.Common.{arith, sym}
use Rattle.std.proofs.lemmas.Grind.{common_steps}
use Rattle.sim.proofs.Numbering.{clash_spoil, clash_send, clash_other}
use Rattle.sim.proofs.numbered.Numbered.clash.Goals as goal

pub returns-in-SpoilAnswer : goal.returns-in-SpoilAnswer
returns-in-SpoilAnswer c = grind (
  arith,
  common_steps,
  clash_spoil c.args.self.now c.in-SpoilAnswer.n c.in-SpoilAnswer.field-1,
)

pub returns-in-Send : goal.returns-in-Send
returns-in-Send c = grind (
  arith,
  common_steps,
  clash_send c.args.self.now c.in-Send.n c.in-Send.field-1,
)

pub returns-in_default : goal.returns-in_default
returns-in_default c =
    sym (clash_other c.args.self.now c.args.directive.now c.in_default.not-Turns
    c.in_default.not-Ack
    c.in_default.not-Wall c.in_default.not-SpoilAnswer c.in_default.not-Send)
