use Rattle.gateway.proofs.Placing.{all_placed, lacking}
use Rattle.gateway.proofs.laws.stepping.own_answers_without_a_place_close.Goals as goal

pub returns : goal.returns
returns c = record {
  closed = lacking;
  rested = λ p log rest on.
      (rest.course, rest.course_runs, all_placed rest.course.works.history (rest.placed on));
  taken = λ p log now frame c may. all_placed c.works.history may.placed;
  handed = λ p log octets now before after h. all_placed before.works.history h.placed;
  asked = λ p log octets before after h on. all_placed before.works.history (h.placed on);
}
