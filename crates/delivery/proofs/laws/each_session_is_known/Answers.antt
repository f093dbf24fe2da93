use Rattle.std.proofs.Common.{ap, sym, ◌∙◌}
use Rattle.link.specs.Delivery.{learnt, reports, sessions}
use Rattle.gateway.specs.Reports.{address_at, exchanges_with}
use Rattle.delivery.proofs.Learnt.{from_learnt, reports_flat}
use Rattle.delivery.proofs.Sessions.{exchanges_join, none_done, none_learnt}
use Rattle.delivery.proofs.laws.each_session_is_known.Goals as goal

pub returns-clause-reports : goal.returns-clause-reports
returns-clause-reports c = λ p log i turns f within honest.
    c.reports_are_learnt.ensures p.link (address_at p.addresses i) (exchanges_with p i log) turns
    (f.links i within) honest

pub returns-clause-joined : goal.returns-clause-joined
returns-clause-joined c = λ p log i turns f within honest.
    reports_flat (λ s. learnt (address_at p.addresses i) s.exchanges)
    (sessions (address_at p.addresses i) (exchanges_with p i log) turns)
    ∙ ap reports (c.sessions_are_known.ensures.learnt_there p.link (address_at p.addresses i)
    (exchanges_with p i log) turns (f.links i within) honest)
    ∙ sym (from_learnt p log i)

pub returns-clause-commands : goal.returns-clause-commands
returns-clause-commands c = λ p log i turns f within honest.
    c.commands_are_accepted.ensures.each p.link (address_at p.addresses i) (exchanges_with p i log)
    turns
    (f.links i within) honest

pub returns-clause-all_commands : goal.returns-clause-all_commands
returns-clause-all_commands c = λ p log i turns f within honest.
    c.commands_are_accepted.ensures.each_all p.link (address_at p.addresses i)
    (exchanges_with p i log) turns
    (f.links i within) honest

pub returns-clause-done : goal.returns-clause-done
returns-clause-done c = λ p log i turns f within honest.
    c.sessions_are_known.ensures.done_there p.link (address_at p.addresses i)
    (exchanges_with p i log) turns
    (f.links i within) honest

pub returns-clause-before : goal.returns-clause-before
returns-clause-before c = λ p log i turns f within honest. record {
  taken = none_learnt (address_at p.addresses i) (exchanges_with p i log) turns honest
      (c.sessions_are_known.ensures.learnt_there p.link (address_at p.addresses i)
      (exchanges_with p i log) turns
      (f.links i within) honest);
  done = none_done (address_at p.addresses i) (exchanges_with p i log) turns honest
      (c.sessions_are_known.ensures.done_there p.link (address_at p.addresses i)
      (exchanges_with p i log) turns
      (f.links i within) honest);
}

pub returns-clause-whole : goal.returns-clause-whole
returns-clause-whole c = λ p log i turns honest. exchanges_join (address_at p.addresses i)
    (exchanges_with p i log) turns honest
