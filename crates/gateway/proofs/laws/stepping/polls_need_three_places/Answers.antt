use Rattle.std.proofs.Common.{◌+◌, ◌≤◌, ◌∷◌, subst}
use Rattle.gateway.specs.Course.{here_of}
use Rattle.gateway.specs.Frames.{acknowledged_reports}
use Rattle.gateway.specs.Reports.{parts_of_all, reports_in}
use Rattle.gateway.proofs.Placing.{queue_room, log_room, three_at_most}
use Rattle.gateway.proofs.laws.stepping.polls_need_three_places.Goals as goal

pub returns : goal.returns
returns c = record {
  queue = queue_room;
  log = λ p log c. log_room (p.places + acknowledged_reports (here_of c ∷ c.earlier))
      (parts_of_all p.sizes (reports_in p log) + 3);
  enough = λ s v report is short. three_at_most s report
      (subst (λ n. n ≤ 3) (c.pieces_carry_the_report.ensures.number s v report is)
      (c.pieces_carry_the_report.ensures.few s v report is short));
}
