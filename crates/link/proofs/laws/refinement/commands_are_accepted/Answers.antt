use Rattle.std.proofs.Common.{refl, true, ap, None, []}
use Rattle.link.specs.Procedure.{Down}
use Rattle.link.specs.Outstation.{unreset}
use Rattle.link.specs.Delivery.{commands}
use Rattle.link.proofs.KnownFrom.{known_from, steady_from}
use Rattle.link.proofs.Sessions.{latest_known, known_all}
use Rattle.link.proofs.Commands.{sendings_from, sendings_steady, accepts, all_accept, accepts_every}
use Rattle.link.proofs.Commands.{all_accept_every}
use Rattle.link.proofs.laws.refinement.commands_are_accepted.Goals as goal

pub returns-clause-each : goal.returns-clause-each
returns-clause-each c = λ settings station xs turns keeps honest.
    all_accept station _ (sendings_from settings station Down None xs turns tt keeps).each
    (known_from settings station Down None xs turns unreset honest.end [] refl keeps honest.run
    honest.fronts).each

pub returns-clause-steady : goal.returns-clause-steady
returns-clause-steady c = λ settings station xs turns keeps steady honest.
    accepts station (record { exchanges = xs; turns = turns })
    (sendings_steady settings station Down None xs tt (λ d. refl) keeps steady)
    (steady_from settings station Down None xs turns unreset honest.end [] refl
    (λ d. (refl, refl)) keeps steady honest.run honest.fronts)

pub returns-clause-each_all : goal.returns-clause-each_all
returns-clause-each_all c = λ settings station xs turns keeps honest.
    all_accept_every station _ (sendings_from settings station Down None xs turns tt keeps).each
    (known_from settings station Down None xs turns unreset honest.end [] refl keeps honest.run
    honest.fronts).each

pub returns-clause-steady_all : goal.returns-clause-steady_all
returns-clause-steady_all c = λ settings station xs turns keeps steady honest.
    accepts_every station (record { exchanges = xs; turns = turns })
    (sendings_steady settings station Down None xs tt (λ d. refl) keeps steady)
    (steady_from settings station Down None xs turns unreset honest.end [] refl
    (λ d. (refl, refl)) keeps steady honest.run honest.fronts)

pub returns-clause-answered : goal.returns-clause-answered
returns-clause-answered c = λ settings station xs turns keeps steady honest latest.
    ap commands
    (known_all _ _ _ (steady_from settings station Down None xs turns unreset honest.end [] refl
    (λ d. (refl, refl)) keeps steady honest.run honest.fronts)
    (latest_known settings station Down None true xs (λ d. refl) (λ e. refl) keeps steady latest))
