use Rattle.std.proofs.Common.{◌≡◌, ℕ, ◌+◌, suc, List, ◌++◌, drop, append_assoc, ap, sym, ◌∙◌, arith}
use Rattle.std.proofs.lemmas.List.{append-nil}
use Rattle.command.specs.Pending.{waiting_of}
use Rattle.state.specs.GivenUps.{waiting_in, of_waiting}
use Rattle.state.specs.declared.given_up.GivenUp.{GivenUp}
use Rattle.state.proofs.GivenUpLemmas.{all_next, all_done, place_within}
use Rattle.state.proofs.given_up.push_waiting.Goals as goal

pub loop-station-preserved : goal.loop-station-preserved
loop-station-preserved c =
    let items = c.args.commands.now.waiting in
    let place : ℕ = c.loop-station.place in
    let old : List GivenUp = c.loop-station.list.items in
    let seen = c.in-Some.ensures.value in
    let more : place + 1 ≡ suc place = omega arith in
    record {
      list = ap (λ (n : ℕ). c.push_asdu.new.list.items ++ waiting_in (drop n items)) more
          ∙ ap (λ (t : List GivenUp). t ++ waiting_in (drop (suc place) items))
          c.in_ok-push_asdu.ensures
          ∙ append_assoc old (of_waiting (c.in-Some._station, c.in-Some.asdu.now))
          (waiting_in (drop (suc place) items))
          ∙ ap (λ (l : List GivenUp). old ++ l)
          (sym (all_next waiting_of of_waiting items place
          (c.in-Some._station, c.in-Some.asdu.now) seen))
          ∙ c.loop-station.invariant.list;
      place = omega (
        arith,
        place_within waiting_of of_waiting items place
            (c.in-Some._station, c.in-Some.asdu.now) seen,
      );
    }

pub returns : goal.returns
returns c =
    let items = c.args.commands.now.waiting in
    let old : List GivenUp = c.loop-station.list.items in
    sym (append-nil old)
    ∙ ap (λ (l : List GivenUp). old ++ l)
    (sym (all_done waiting_of of_waiting items c.loop-station.place c.in_default.ensures.value))
    ∙ c.loop-station.invariant.list
