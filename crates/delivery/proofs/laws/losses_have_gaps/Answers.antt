use Rattle.std.proofs.Common.{arith}
use Rattle.gateway.specs.Reports.{address_at}
use Rattle.delivery.specs.Delivery.{sessions_of}
use Rattle.delivery.proofs.Losses.{within_ended}
use Rattle.delivery.proofs.laws.losses_have_gaps.Goals as goal

pub returns-clause-lost : goal.returns-clause-lost
returns-clause-lost c = λ p log i turns f within honest.
    let h = within_ended (address_at p.addresses i) (sessions_of p log i turns)
    (c.each_session_is_known.ensures.reports p log i turns f within honest) in
    omega (arith, h.lost)

pub returns-clause-taken : goal.returns-clause-taken
returns-clause-taken c = λ p log i turns f within honest.
    let h = within_ended (address_at p.addresses i) (sessions_of p log i turns)
    (c.each_session_is_known.ensures.reports p log i turns f within honest) in
    h.taken
