use Rattle.std.proofs.Common.{[], arith}
use Rattle.apci.proofs.Fronts.{no_length}
use Rattle.apci.proofs.assembling.length_step.Goals.{then-octet-lt4-via-then-octet-lt4}
use Rattle.apci.proofs.assembling.length_step.Goals.{then-octet-lt4-via-else-octet-lt4+then-octet-gt253}
use Rattle.apci.proofs.assembling.length_step.Goals as goal

pub returns-then-octet-lt4 : goal.returns-then-octet-lt4
returns-then-octet-lt4 c = no_length c.args.octet [] (λ low high.
    elim c.then-octet-lt4.branch [
      | then-octet-lt4-via-then-octet-lt4 w ↦ omega arith
      | then-octet-lt4-via-else-octet-lt4+then-octet-gt253 w ↦ omega arith
    ])
