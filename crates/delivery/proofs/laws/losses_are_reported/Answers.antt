use Rattle.std.proofs.Common.{◌∙◌}
use Rattle.gateway.specs.Reports.{address_at, exchanges_with}
use Rattle.delivery.specs.Delivery.{sessions_of}
use Rattle.delivery.proofs.Losses.{logged_so, gaps_rested}
use Rattle.delivery.proofs.laws.losses_are_reported.Goals as goal

pub returns-clause-lost : goal.returns-clause-lost
returns-clause-lost c = λ p log i turns f rests within honest.
    logged_so (address_at p.addresses i) (sessions_of p log i turns) _
    (c.each_session_is_known.ensures.reports p log i turns f within honest)
    (gaps_rested p (λ e k. c.giving_up_is_logged.ensures.gaps p.link p.link.size p.addresses e k)
    log
    i rests
    ∙ c.gaps_are_ended_sessions.ensures.ended p.link (address_at p.addresses i)
    (exchanges_with p i log) turns
    (f.links i within)
    (c.gaps_are_ended_sessions.ensures.honest (address_at p.addresses i) (exchanges_with p i log)
    turns honest))

pub returns-clause-told : goal.returns-clause-told
returns-clause-told c = λ p log i turns f rests within same.
    gaps_rested p (λ e k. c.giving_up_is_logged.ensures.gaps p.link p.link.size p.addresses e k)
    log i rests
    ∙ c.gaps_are_ended_sessions.ensures.ended p.link (address_at p.addresses i)
    (exchanges_with p i log) turns (f.links i within) same
