use Rattle.std.proofs.Common.{◌≡◌, ℕ, ◌+◌, suc, List, ◌++◌, drop, append_assoc, ap, sym, ◌∙◌, arith}
use Rattle.std.proofs.lemmas.List.{append-nil}
use Rattle.std.specs.Prelude.{slice_get}
use Rattle.state.specs.GivenUps.{answers_in, of_answer}
use Rattle.state.specs.declared.given_up.GivenUp.{GivenUp}
use Rattle.state.proofs.GivenUpLemmas.{all_next, all_done, place_within, as_it_is}
use Rattle.state.proofs.given_up.push_answers.Goals as goal

pub loop-asdu-preserved : goal.loop-asdu-preserved
loop-asdu-preserved c =
    let items = c.args.commands.now.answers in
    let place : ℕ = c.loop-asdu.place in
    let old : List GivenUp = c.loop-asdu.list.items in
    let seen = c.in-Some.ensures.value ∙ as_it_is (slice_get items place) in
    let more : place + 1 ≡ suc place = omega arith in
    record {
      list = ap (λ (n : ℕ). c.push_asdu.new.list.items ++ answers_in (drop n items)) more
          ∙ ap (λ (t : List GivenUp). t ++ answers_in (drop (suc place) items))
          c.in_ok-push_asdu.ensures
          ∙ append_assoc old (of_answer c.in-Some.asdu.now) (answers_in (drop (suc place) items))
          ∙ ap (λ (l : List GivenUp). old ++ l)
          (sym (all_next (λ (x : List ℕ). x) of_answer items place c.in-Some.asdu.now seen))
          ∙ c.loop-asdu.invariant.list;
      place = omega (
        arith,
        place_within (λ (x : List ℕ). x) of_answer items place c.in-Some.asdu.now seen,
      );
    }

pub returns : goal.returns
returns c =
    let items = c.args.commands.now.answers in
    let old : List GivenUp = c.loop-asdu.list.items in
    sym (append-nil old)
    ∙ ap (λ (l : List GivenUp). old ++ l)
    (sym (all_done (λ (x : List ℕ). x) of_answer items c.loop-asdu.place
    (c.in_default.ensures.value ∙ as_it_is (slice_get items c.loop-asdu.place))))
    ∙ c.loop-asdu.invariant.list
