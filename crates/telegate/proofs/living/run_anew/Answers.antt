use Rattle.std.specs.Prelude.{IfErr}
use Rattle.telegate.specs.Kept.{IsEndFault}
use Rattle.telegate.proofs.RunLemmas.{as_err}
use Rattle.telegate.proofs.living.run_anew.Goals as goal

pub returns-in_err-ends-clause-fault : goal.returns-in_err-ends-clause-fault
returns-in_err-ends-clause-fault g c =
    as_err (λ r. IfErr r IsEndFault) c.from_residual-in_err-ends.result c.in_err-ends.field-0.0
    c.from_residual-in_err-ends.ensures.1 c.in_err-ends.ensures.fault
