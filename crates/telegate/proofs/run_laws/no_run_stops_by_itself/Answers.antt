use Rattle.std.proofs.Common.{Result, Some, subst}
use Rattle.record.specs.Recording.{all_passed}
use Rattle.telegate.specs.Running.{HasRun}
use Rattle.telegate.specs.declared.running.DeviceFailed.{DeviceFailed}
use Rattle.telegate.proofs.RunLaw.{over_as, used_all}
use Rattle.telegate.proofs.run_laws.no_run_stops_by_itself.Goals as goal

pub returns-clause-turns : goal.returns-clause-turns
returns-clause-turns g c settings wishes old new left ended log h well is =
    used_all 18446744073709551615 ended left.pen.before log
    (all_passed left.pen (Some left.port.log))
    (over_as _ settings wishes old new left ended h) well is

pub returns-clause-device : goal.returns-clause-device
returns-clause-device g c before after ended why ran is =
    subst (λ (r : Result (Unit {0}) DeviceFailed). HasRun before after r) is ran
