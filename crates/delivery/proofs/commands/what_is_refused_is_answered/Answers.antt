use Rattle.std.proofs.Common.{subst}
use Rattle.command.specs.Calls.{Run}
use Rattle.command.specs.History.{AnswersWholly}
use Rattle.delivery.proofs.NoMore.{given_no_more}
use Rattle.delivery.proofs.OwnAnswers.{none_due}
use Rattle.delivery.proofs.commands.what_is_refused_is_answered.Goals as goal

pub returns : goal.returns
returns c = record {
  given = λ p log d r.
      let due = c.what_is_due_is_given.ensures.answers p log d r in
      none_due p.sizes d.works.history due.0 due.1;
  no_more = λ p log d r. given_no_more p.sizes d.works.history
      (c.what_is_due_is_given.ensures.answers p log d r).0;
  answers = λ p log d r.
      let made = (c.courses_keep_commands.ensures p log d r).made in
      subst (λ (run : Run). AnswersWholly p.sizes p.stations p.select_ms p.max_age_ms run.history)
      made.1 (c.own_answers_are_given.ensures.wholly p.stations p.sizes p.select_ms p.max_age_ms
      made.0);
}
