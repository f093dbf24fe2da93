use Rattle.std.proofs.Common.{refl, None, []}
use Rattle.link.specs.Procedure.{Down}
use Rattle.link.specs.Outstation.{unreset}
use Rattle.link.proofs.KnownFrom.{known_from}
use Rattle.link.proofs.Sessions.{all_have_reports}
use Rattle.link.proofs.laws.refinement.reports_are_learnt.Goals as goal

pub returns : goal.returns
returns c = λ settings station xs turns keeps honest.
    all_have_reports station _ (known_from settings station Down None xs turns unreset honest.end
    [] refl keeps honest.run honest.fronts).each
