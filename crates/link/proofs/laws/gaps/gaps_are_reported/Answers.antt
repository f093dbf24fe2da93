use Rattle.std.proofs.Common.{◌≡◌, ◌++◌, sym, subst}
use Rattle.ft12.specs.Fronts.{front_of}
use Rattle.link.specs.Exchanges.{received_current}
use Rattle.link.specs.Gaps.{gaps_at}
use Rattle.link.specs.Procedure.{LinkSettings}
use Rattle.link.specs.Primary.{received_outcome}
use Rattle.link.specs.Matching.{gap_in_outcome}
use Rattle.link.proofs.GapsReported.{receive_gaps, due_gaps, next_gaps}
use Rattle.link.proofs.laws.gaps.gaps_are_reported.Goals as goal

pub returns-clause-octets : goal.returns-clause-octets
returns-clause-octets c = λ settings addresses p e octets station t.
    subst (λ (s : LinkSettings).
    gaps_at (front_of settings.size) addresses station
    (record { ended = e.ended; current = received_current octets e.current })
    ≡ gaps_at (front_of settings.size) addresses station e
    ++ gap_in_outcome station (received_outcome (front_of s.size) p octets)) (sym t.settings_are)
    (receive_gaps (front_of settings.size) settings addresses p e.ended e.current octets station t)

pub returns-clause-due : goal.returns-clause-due
returns-clause-due c = λ size addresses answer_ms at e station. due_gaps
    (front_of size) addresses answer_ms at e station

pub returns-clause-next : goal.returns-clause-next
returns-clause-next c = λ size addresses now s e station. next_gaps (front_of size) addresses now s
    e station
    (c.front_is_computed.ensures.nothing size)
