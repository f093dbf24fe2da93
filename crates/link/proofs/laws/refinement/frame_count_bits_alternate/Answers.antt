use Rattle.std.proofs.Common.{None}
use Rattle.link.specs.Procedure.{Down}
use Rattle.link.proofs.BitsFollowed.{bits_follow}
use Rattle.link.proofs.laws.refinement.frame_count_bits_alternate.Goals as goal

pub returns : goal.returns
returns c = λ settings station xs keeps. bits_follow settings station
    Down None xs (λ fcb service may. may) keeps
