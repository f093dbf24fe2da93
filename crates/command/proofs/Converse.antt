-- A selected execute passes, by octets.
use Rattle.std.proofs.Common.{◌≡◌, ℕ, ◌≤◌, ◌&&◌, Bool, true, false, not, List, [], ◌∷◌, refl, ap}
use Rattle.std.proofs.Common.{◌∙◌}
use Rattle.std.specs.Prelude.{Option, None, option_map}
use Rattle.std.specs.List.{list_any}
use Rattle.asdu.specs.declared.sizes.Sizes.{Sizes}
use Rattle.command.specs.declared.station.StationInfo.{StationInfo}
use Rattle.command.specs.Standard.{first_cause, own_rules, cause_of_fault, executes}
use Rattle.command.specs.Standard.{must_be_selected}
use Rattle.command.specs.Octets.{answer}
use Rattle.command.specs.Command.{command_at}
use Rattle.command.specs.Selection.{lets_through}
use Rattle.command.specs.State.{State}
use Rattle.command.specs.Judging.{judged}
use Rattle.command.specs.Rules.{not_selected, no_place, rules_for}
use Rattle.command.specs.History.{IsSelected}
use Rattle.command.specs.Calls.{Call, run, latest, NeverFall}
use Rattle.command.proofs.ReadAlike.{IsGood, good_read, executes_read}
use Rattle.command.proofs.Bridge.{selected_by_machine}
use Rattle.command.proofs.Ruled.{first_rule, more_rules}
use Rattle.command.proofs.Runs.{run_holds, owned}
use Rattle.command.proofs.Full.{run_passes}

passing : (a b : Bool) → b ≡ true → (a && not b) ≡ false
passing true b e = rw e refl
passing false b e = refl

module _ (stations : List StationInfo) (sizes : Sizes) (ms age : ℕ) (calls : List Call)
    (falls : NeverFall calls)
    (now : ℕ) (later : latest calls ≤ now) (xs : List ℕ) (wall : Option ℕ)
    (f : cause_of_fault sizes stations age wall xs ≡ None) (x : executes xs ≡ true)
    (s : IsSelected sizes stations ms age xs now (run stations sizes ms age calls).history) where
  abbrev after : State
  after = (run stations sizes ms age calls).state

  let_through : list_any (lets_through ms (command_at xs) now) after.selections ≡ true
  let_through =
      let right : IsGood xs = good_read sizes stations age wall xs f in
      run_passes sizes stations ms age calls falls (command_at xs) now later
      (selected_by_machine sizes stations ms age xs now (run stations sizes ms age calls).history
      right
      (executes_read xs right ∙ x) s)

  pub is_let : (not_selected xs now after).applies ≡ false
  is_let = passing (must_be_selected after.stations xs && executes xs)
      (list_any (lets_through after.select_ms (command_at xs) now) after.selections)
      (ap (λ (n : ℕ). list_any (lets_through n (command_at xs) now) after.selections)
      (run_holds sizes stations ms age calls).same_time ∙ let_through)

  same_fault : first_cause (own_rules after.sizes after.stations after.max_age_ms wall xs) ≡ None
  same_fault =
      owned (λ sizes stations ms age. cause_of_fault sizes stations age wall xs ≡ None)
      (run stations sizes ms age calls) (run_holds sizes stations ms age calls) f

  no_rule : (no_place xs after).applies ≡ false → first_cause (rules_for xs now wall after) ≡ None
  no_rule room = more_rules (own_rules after.sizes after.stations after.max_age_ms wall xs)
      (not_selected xs now after
      ∷ no_place xs after ∷ []) ∙ rw (same_fault, is_let, room) refl

  pub is_forwarded : (no_place xs after).applies ≡ false → (judged xs now wall after).0 ≡ None
  is_forwarded room = first_rule xs now wall after
      ∙ ap (λ (o : Option ℕ). option_map (λ cause. answer cause xs) o)
      (no_rule room)
