use Rattle.asdu.proofs.PassedOn.{passed, kept_back}
use Rattle.asdu.proofs.laws.monitor_reports_are_passed_on.Goals as goal

pub returns-clause-passed : goal.returns-clause-passed
returns-clause-passed c = passed

pub returns-clause-kept_back : goal.returns-clause-kept_back
returns-clause-kept_back c = kept_back
