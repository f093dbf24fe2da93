use Rattle.std.proofs.Common.{refl, true, None, []}
use Rattle.link.specs.Procedure.{Down}
use Rattle.link.specs.Outstation.{unreset}
use Rattle.link.proofs.KnownFrom.{steady_from}
use Rattle.link.proofs.Sessions.{latest_known, known_all, reports_known}
use Rattle.link.proofs.laws.refinement.each_service_acts_once.Goals as goal

pub returns-clause-known : goal.returns-clause-known
returns-clause-known c = λ settings station xs turns keeps steady honest.
    steady_from settings station Down None xs turns unreset honest.end [] refl
    (λ d. (refl, refl)) keeps steady honest.run honest.fronts

pub returns-clause-reports : goal.returns-clause-reports
returns-clause-reports c = λ settings station xs turns keeps steady honest.
    reports_known _ _ _ (steady_from settings station Down None xs turns unreset honest.end [] refl
    (λ d. (refl, refl)) keeps steady honest.run honest.fronts)

pub returns-clause-all : goal.returns-clause-all
returns-clause-all c = λ settings station xs turns keeps steady honest latest.
    known_all _ _ _ (steady_from settings station Down None xs turns unreset honest.end [] refl
    (λ d. (refl, refl)) keeps steady honest.run honest.fronts)
    (latest_known settings station Down None true xs (λ d. refl) (λ e. refl) keeps steady latest)
