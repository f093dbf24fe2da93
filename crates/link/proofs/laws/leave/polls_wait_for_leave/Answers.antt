use Rattle.link.proofs.Leaving.{without, next, octets, due, report}
use Rattle.link.proofs.laws.leave.polls_wait_for_leave.Goals as goal

pub returns-clause-without : goal.returns-clause-without
returns-clause-without c = without

pub returns-clause-next : goal.returns-clause-next
returns-clause-next c = next

pub returns-clause-octets : goal.returns-clause-octets
returns-clause-octets c = octets

pub returns-clause-due : goal.returns-clause-due
returns-clause-due c = due

pub returns-clause-report : goal.returns-clause-report
returns-clause-report c = report
