use Rattle.delivery.proofs.OwnSelects.{not_before, not_behind, by_latest}
use Rattle.delivery.proofs.selecting.each_execute_has_a_select_of_its_own.Goals as goal

pub returns : goal.returns
returns c = record {
  before = λ p log course newer older now wall xs runs is asks executing none.
      let keeps = c.courses_keep_commands.ensures p log course runs in
      not_before p course.works.history keeps.selected keeps.forwarded keeps.answered xs now wall
      asks executing newer older is none;
  behind = λ p log course newer since earlier end now wall xs runs is asks executing ends none.
      let keeps = c.courses_keep_commands.ensures p log course runs in
      not_behind p course.works.history keeps.selected keeps.forwarded keeps.answered xs now wall
      asks executing newer since earlier end is ends none;
  latest = λ p log course newer since earlier now came wall clock xs ys runs is asks executing
      selecting one none.
      let keeps = c.courses_keep_commands.ensures p log course runs in
      by_latest p course.works.history keeps.selected keeps.forwarded keeps.answered xs now wall
      asks executing newer since earlier came clock ys is selecting one none;
}
