use Rattle.gateway.proofs.Between.{between_steps}
use Rattle.gateway.proofs.laws.steps_leave_nothing_open.Goals as goal

pub returns : goal.returns
returns c = λ p s log h. between_steps p s log h.0
