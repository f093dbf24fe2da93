use Rattle.std.proofs.Common.{inr}
use Rattle.telegate.proofs.check.check.Goals as goal

pub returns-in-Err : goal.returns-in-Err
returns-in-Err g c = inr (record {
  fault = c.in-Err.fault;
  is = c.in-Err.ensures;
  answered = c.refuse.ensures;
})
