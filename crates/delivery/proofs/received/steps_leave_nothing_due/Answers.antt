use Rattle.std.proofs.Common.{◌∷◌}
use Rattle.delivery.proofs.Closing.{asked, done_all, of_step, rested_then}
use Rattle.delivery.proofs.received.steps_leave_nothing_due.Goals as goal

pub returns : goal.returns
returns c = record {
  between = λ p newer older at event entry f other.
      let h = rested_then p newer older at event entry f.rests (of_step entry other) in
      let done = done_all p (entry ∷ older) h
      (c.own_answers_go_out.ensures p (entry ∷ older) h.course h.course_runs) in (
        h.course,
        h.course_runs,
        done.confirmed,
        done.none_due,
        done.in_time,
        (done.taken.rest, done.taken.octets, done.taken.more),
        λ runs few. (done.answers (runs, few), done.objects (runs, few)),
      );
  asked = λ p log now octets d r.
      let waits = asked p log now octets d r in
      (waits.in_time, waits.taken.rest, waits.taken.octets, waits.taken.more);
}
