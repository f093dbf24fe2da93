use Rattle.delivery.proofs.ComeBack.{with_fault, without_fault, busy, negative_is, other_is}
use Rattle.delivery.proofs.refusing.refused_commands_come_back_with_their_cause.Goals as goal

pub returns : goal.returns
returns c = record {
  fault = λ p log course newer older now why wall xs answer runs is long fits so.
      with_fault p course.works.history (c.courses_keep_commands.ensures p log course runs).answered
      newer older now wall xs answer why is long fits so;
  activation = λ p log course newer older now wall xs answer runs is long fits six none.
      without_fault p course.works.history
      (c.courses_keep_commands.ensures p log course runs).answered
      newer older now wall xs answer 7 is long fits none (negative_is xs six);
  deactivation = λ p log course newer older now wall xs answer runs is long fits eight none.
      without_fault p course.works.history
      (c.courses_keep_commands.ensures p log course runs).answered
      newer older now wall xs answer 9 is long fits none (other_is xs eight);
  busy = λ p log course newer since older k octets xs answer runs is line next long fits.
      let keeps = c.courses_keep_commands.ensures p log course runs in (
        (λ six. busy p course.works.history keeps.answered newer since older k octets xs answer 7 is
            line next long fits (negative_is xs six)),
        (λ eight. busy p course.works.history keeps.answered newer since older k octets xs answer 9
            is line next long fits (other_is xs eight)),
      );
}
