use Rattle.std.proofs.Common.{◌∷◌}
use Rattle.delivery.proofs.Closing.{asked, done_all, rested_then}
use Rattle.delivery.proofs.Ruled.{ruled}
use Rattle.delivery.proofs.received.connections_keep_the_rules_of_the_session.Goals as goal

pub returns : goal.returns
returns c = record {
  rules = ruled;
  asked = asked;
  rested = λ p log h. (
    h.course,
    h.course_runs,
    done_all p log h (c.own_answers_go_out.ensures p log h.course h.course_runs),
  );
  between = λ p newer older at event entry f s.
      let h = rested_then p newer older at event entry f.rests s in (
        h.course,
        h.course_runs,
        done_all p (entry ∷ older) h
            (c.own_answers_go_out.ensures p (entry ∷ older) h.course h.course_runs),
      );
}
