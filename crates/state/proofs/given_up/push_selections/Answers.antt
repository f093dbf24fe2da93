use Rattle.std.proofs.Common.{◌≡◌, ℕ, ◌+◌, suc, List, ◌++◌, drop, append_assoc, ap, sym, ◌∙◌, arith}
use Rattle.std.proofs.lemmas.List.{append-nil}
use Rattle.command.specs.Pending.{selected_of}
use Rattle.state.specs.GivenUps.{selections_in, of_selected}
use Rattle.state.specs.declared.given_up.GivenUp.{GivenUp}
use Rattle.state.proofs.GivenUpLemmas.{all_next, all_done, place_within}
use Rattle.state.proofs.given_up.push_selections.Goals as goal

pub loop-selected-preserved : goal.loop-selected-preserved
loop-selected-preserved c =
    let items = c.args.commands.now.selections in
    let place : ℕ = c.loop-selected.place in
    let old : List GivenUp = c.loop-selected.list.items in
    let seen = c.in-Some.ensures.value in
    let more : place + 1 ≡ suc place = omega arith in
    record {
      list = ap (λ (n : ℕ). c.push.new.self.items ++ selections_in (drop n items)) more
          ∙ ap (λ (t : List GivenUp). t ++ selections_in (drop (suc place) items))
          c.in_ok-push.ensures.items
          ∙ append_assoc old (of_selected c.in-Some.selected)
          (selections_in (drop (suc place) items))
          ∙ ap (λ (l : List GivenUp). old ++ l)
          (sym (all_next selected_of of_selected items place c.in-Some.selected seen))
          ∙ c.loop-selected.invariant.list;
      place =
          omega (arith, place_within selected_of of_selected items place c.in-Some.selected seen);
    }

pub returns : goal.returns
returns c =
    let items = c.args.commands.now.selections in
    let old : List GivenUp = c.loop-selected.list.items in
    sym (append-nil old)
    ∙ ap (λ (l : List GivenUp). old ++ l)
    (sym (all_done selected_of of_selected items c.loop-selected.place c.in_default.ensures.value))
    ∙ c.loop-selected.invariant.list
