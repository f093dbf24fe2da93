use Rattle.std.proofs.Common.{[], arith}
use Rattle.ft12.proofs.Returns.{no_start}
use Rattle.ft12.proofs.stage.at_start.Goals as goal

pub returns-in_default : goal.returns-in_default
returns-in_default c =
    no_start c.args.size c.args.octet [] (λ h. omega arith) (λ h. omega arith) (λ h. omega arith)
