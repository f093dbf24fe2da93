use Rattle.std.proofs.Common.{◌≡◌, ◌++◌, slice_index, sym, subst}
use Rattle.ft12.specs.Fronts.{front_of}
use Rattle.link.specs.Exchanges.{received_current, reports_of_exchanges}
use Rattle.link.specs.Procedure.{LinkSettings}
use Rattle.link.specs.Primary.{received_outcome}
use Rattle.link.specs.Matching.{report_in}
use Rattle.link.proofs.Reports.{receive_reports, due_reports, next_reports}
use Rattle.link.proofs.laws.outcomes_bear_the_reports.Goals as goal

pub returns-clause-octets : goal.returns-clause-octets
returns-clause-octets c = λ settings addresses p e octets t.
    subst (λ (s : LinkSettings).
    reports_of_exchanges (front_of settings.size) (λ i. slice_index addresses i)
    (record { ended = e.ended; current = received_current octets e.current })
    ≡ reports_of_exchanges (front_of settings.size) (λ i. slice_index addresses i) e
    ++ report_in (received_outcome (front_of s.size) p octets)) (sym t.settings_are)
    (receive_reports (front_of settings.size) settings addresses p e.ended e.current octets t)

pub returns-clause-due : goal.returns-clause-due
returns-clause-due c = λ size address answer_ms at e. due_reports (front_of size) address answer_ms
    at e

pub returns-clause-next : goal.returns-clause-next
returns-clause-next c = λ size address now s e. next_reports (front_of size) address now s e
    (c.front_is_computed.ensures.nothing size)
