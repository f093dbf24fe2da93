use Rattle.std.proofs.Common.{refl, None, []}
use Rattle.link.specs.Procedure.{Down}
use Rattle.link.specs.Outstation.{unreset}
use Rattle.link.proofs.KnownFrom.{known_from}
use Rattle.link.proofs.Sessions.{all_in_sessions}
use Rattle.link.proofs.laws.refinement.sessions_are_known.Goals as goal

pub returns-clause-each : goal.returns-clause-each
returns-clause-each c = λ settings station xs turns keeps honest.
    (known_from settings station Down None xs turns unreset honest.end [] refl keeps honest.run
    honest.fronts).each

pub returns-clause-learnt_there : goal.returns-clause-learnt_there
returns-clause-learnt_there c = λ settings station xs turns keeps honest.
    (all_in_sessions settings station xs turns keeps honest).0

pub returns-clause-done_there : goal.returns-clause-done_there
returns-clause-done_there c = λ settings station xs turns keeps honest.
    (all_in_sessions settings station xs turns keeps honest).1
