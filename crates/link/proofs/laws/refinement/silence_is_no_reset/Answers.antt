use Rattle.std.proofs.Common.{refl}
use Rattle.link.specs.Procedure.{Down}
use Rattle.link.proofs.Commands.{hold_steady}
use Rattle.link.proofs.laws.refinement.silence_is_no_reset.Goals as goal

pub returns : goal.returns
returns c = λ settings station xs hold keeps able stands asks. hold_steady settings station
    Down xs hold refl keeps able stands asks
