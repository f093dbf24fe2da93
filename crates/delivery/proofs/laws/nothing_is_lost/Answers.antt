use Rattle.std.proofs.Common.{ℕ, ap, subst, sym, ◌∙◌, length, List}
use Rattle.link.specs.Outstation.{all_done}
use Rattle.link.specs.Delivery.{IsAllOrButLast, reports}
use Rattle.gateway.specs.Objects.{monitor_objects}
use Rattle.gateway.specs.Reports.{address_at, exchanges_with, reports_in}
use Rattle.delivery.proofs.Merging.{merged_by}
use Rattle.delivery.proofs.Stations.{reporters}
use Rattle.delivery.proofs.Learnt.{from_learnt}
use Rattle.delivery.proofs.laws.nothing_is_lost.Goals as goal

pub returns : goal.returns
returns c = λ p log f. record {
  course = f.course;
  begun = f.begun;
  course_runs = f.course_runs;
  are = f.are;
  run = f.orders;
  merged = merged_by (monitor_objects p.sizes) (length p.addresses) (reports_in p log)
      (reporters p log);
  relayed = λ i turns within honest steady. record {
    most = subst (λ (some : List (List ℕ)). IsAllOrButLast (reports (all_done turns)) some)
        (sym (from_learnt p log i))
        (c.each_service_acts_once.ensures.reports p.link (address_at p.addresses i)
        (exchanges_with p i log) turns
        (f.links i within) steady honest);
    all = λ latest. from_learnt p log i
        ∙ ap reports (c.each_service_acts_once.ensures.all p.link (address_at p.addresses i)
        (exchanges_with p i log) turns (f.links i within) steady honest latest);
    downwards_all = c.commands_are_accepted.ensures.steady_all p.link (address_at p.addresses i)
        (exchanges_with p i log) turns (f.links i within) steady honest;
    downwards = c.commands_are_accepted.ensures.steady p.link (address_at p.addresses i)
        (exchanges_with p i log) turns
        (f.links i within) steady honest;
  };
  sent = λ set i. c.each_command_is_given_once.ensures.sent p log i f set;
  accepted = λ set i turns within honest. c.each_command_is_given_once.ensures.accepted p log i
      turns f set within
      honest;
}
