use Rattle.std.proofs.Common.{List, None, ap, ◌∙◌}
use Rattle.gateway.specs.Reports.{address_at, exchanges_of, exchanges_with}
use Rattle.delivery.specs.Commands.{LineStep, confirmed_by, unmissed}
use Rattle.delivery.proofs.Confirmed.{confirmed_learnt, confirmed_alike, sent_alike}
use Rattle.delivery.proofs.Here.{judged_on_it}
use Rattle.delivery.proofs.Joining.{Joins, joins}
use Rattle.delivery.proofs.Judgements.{judged_all}
use Rattle.delivery.specs.LinkLaws.{LinkLaws}
use Rattle.delivery.proofs.commands.the_course_is_the_logs.Goals as goal

pub returns : goal.returns
returns c = λ p log course f set runs.
    let laws : LinkLaws = c.the_line_is_its_exchanges.ensures in
    let j : Joins p (exchanges_of p log) course.works =
    joins laws c.waiting_commands_stay.ensures.mirrored p set log course runs f.acts in
    record {
      matches = j.matches;
      steps = λ k. (j.logged k).steps;
      all_logged = j.left;
      sent = λ k. sent_alike k course.works.serial.silent course.works ∙ (j.logged k).sent;
      confirmed = λ k. confirmed_alike k course.works.serial.silent course.works
          ∙ ap (λ (steps : List LineStep). confirmed_by steps) (j.logged k).steps
          ∙ confirmed_learnt p.link (address_at p.addresses k) unmissed None
          (exchanges_with p k log);
      mirrored = j.mirrors;
      skipped = j.skips;
      judged = judged_all c.one_front.ensures c.waiting_commands_stay.ensures.mirrored p log course
          runs;
      here = judged_on_it p log course runs;
    }
