-- A command with which nothing is wrong is forwarded.
use Rattle.std.proofs.Common.{◌≡◌, ℕ, suc, ◌≤◌, ◌<◌, ◌&&◌, ◌||◌, Bool, true, false, not, List}
use Rattle.std.proofs.Common.{[], ◌∷◌, length, refl, sym, ap, ◌∙◌, arith}
use Rattle.std.specs.Prelude.{Option, Some, None, if◌then◌else◌, option_map, nat_lt, nat_le}
use Rattle.std.specs.List.{list_any, filter_map, cons_option}
use Rattle.std.proofs.lemmas.Bool.{and_parts}
use Rattle.asdu.specs.declared.sizes.Sizes.{Sizes}
use Rattle.command.specs.declared.station.StationInfo.{StationInfo}
use Rattle.command.specs.declared.selection.Selection.{Selection}
use Rattle.command.specs.declared.selection.Sign.TheVariants as sign
use Rattle.command.specs.Octets.{answer}
use Rattle.command.specs.Command.{command_at}
use Rattle.command.specs.Selection.{advanced, lets_through, target_of, same_target}
use Rattle.command.specs.State.{State}
use Rattle.command.specs.Judging.{judged, others}
use Rattle.command.specs.Rules.{not_selected, no_place, rules_for}
use Rattle.command.specs.Standard.{first_cause, own_rules, cause_of_fault, executes, selects}
use Rattle.command.specs.Standard.{must_be_selected, operates, is_activation}
use Rattle.command.specs.Standard.{last_octet}
use Rattle.command.specs.History.{IsSelected}
use Rattle.command.specs.Passing.{FindsPlaces, of_others}
use Rattle.command.specs.Selections.{is_of}
use Rattle.command.specs.Calls.{Call, run, latest, NeverFall}
use Rattle.command.proofs.Judged.{same_target_itself}
use Rattle.command.proofs.Converse.{is_let}
use Rattle.command.proofs.Places.{and_off, or_off, has_room, has_waiting_room}
use Rattle.command.proofs.Ruled.{first_rule, more_rules}
use Rattle.command.proofs.Runs.{run_holds, owned}
use Rattle.command.proofs.Standing.{one_target}
use Rattle.std.proofs.Common.{◌+◌}
use Rattle.std.specs.Prelude.{◌==◌}

-- ---- the selections of other targets

others_few : (xs : List ℕ) (ms : ℕ) (zs : List Selection)
    → length (filter_map (advanced ms (sign.Over (target_of (command_at xs)))) zs) ≤ of_others xs zs
others_few xs ms [] = omega arith
others_few xs ms (z ∷ zs) =
    by (others_few xs ms zs) (same_target (target_of z.command) (target_of (command_at xs)))
    (is_of xs z) refl refl
  where
    left : List Selection
    left = filter_map (advanced ms (sign.Over (target_of (command_at xs)))) zs

    by : length left ≤ of_others xs zs → (b d : Bool)
        → same_target (target_of z.command) (target_of (command_at xs)) ≡ b → is_of xs z ≡ d
        → length (cons_option (if b then None else Some z) left)
        ≤ (if d then of_others xs zs else suc (of_others xs zs))
    by rest true true t is = rest
    by rest true false t is = omega (arith, rest)
    by rest false false t is = omega (arith, rest)
    by rest false true t is =
        let same : same_target (target_of z.command) (target_of (command_at xs)) ≡ true =
        ap (λ t. same_target t (target_of (command_at xs))) (one_target xs z is)
        ∙ same_target_itself (target_of (command_at xs)) in
        let no : false ≡ true = sym t ∙ same in cc

-- ---- what isn't a select is no matter of places, and what isn't an execute none of selections

parts_off : (m s e : Bool) → (m && (s || e)) ≡ false → ((m && s) ≡ false) × ((m && e) ≡ false)
parts_off false s e h = (refl, refl)
parts_off true false e h = (refl, h)
parts_off true true e h = cc

any_off : (m : Bool) → (m && false) ≡ false
any_off true = refl
any_off false = refl

below_off : (n : ℕ) → nat_le 128 n ≡ true → nat_lt n 128 ≡ false
below_off n h = grind (arith, h)

above_off : (n : ℕ) → nat_lt n 128 ≡ true → nat_le 128 n ≡ false
above_off n h = grind (arith, h)

not_many : (n m : ℕ) → n ≤ m → m < 16 → nat_le 16 n ≡ false
not_many n m fewer few = let n_few : n < 16 = omega (arith, fewer, few) in grind (arith, n_few)

no_execute : (xs : List ℕ) → selects xs ≡ true → executes xs ≡ false
no_execute xs h =
    ap (λ (b : Bool). operates xs && is_activation xs && b) (below_off (last_octet xs)
    (and_parts (operates xs && is_activation xs) (nat_le 128 (last_octet xs)) h).1)
    ∙ any_off (operates xs && is_activation xs)

pub no_select : (xs : List ℕ) → executes xs ≡ true → selects xs ≡ false
no_select xs h =
    ap (λ (b : Bool). operates xs && is_activation xs && b) (above_off (last_octet xs)
    (and_parts (operates xs && is_activation xs) (nat_lt (last_octet xs) 128) h).1)
    ∙ any_off (operates xs && is_activation xs)

module _ (stations : List StationInfo) (sizes : Sizes) (ms age : ℕ) (calls : List Call)
    (xs : List ℕ) (now : ℕ) (wall : Option ℕ)
    (faultless : cause_of_fault sizes stations age wall xs ≡ None) where
  abbrev after : State
  after = (run stations sizes ms age calls).state

  same : after.stations ≡ stations
  same = (run_holds sizes stations ms age calls).same_stations

  no_fault : first_cause (own_rules after.sizes after.stations after.max_age_ms wall xs) ≡ None
  no_fault = owned (λ sizes stations ms age. cause_of_fault sizes stations age wall xs ≡ None)
      (run stations sizes ms age calls) (run_holds sizes stations ms age calls) faultless

  no_rule : (not_selected xs now after).applies ≡ false → (no_place xs after).applies ≡ false
      → (judged xs now wall after).0 ≡ None
  no_rule chosen placed =
      let none : first_cause (rules_for xs now wall after) ≡ None =
      more_rules (own_rules after.sizes after.stations after.max_age_ms wall xs)
      (not_selected xs now after ∷ no_place xs after ∷ []) ∙ rw (no_fault, chosen, placed) refl in
      first_rule xs now wall after
      ∙ ap (λ (o : Option ℕ). option_map (λ cause. answer cause xs) o) none

  unasked : (must_be_selected stations xs && executes xs) ≡ false
      → (not_selected xs now after).applies ≡ false
  unasked off = and_off (must_be_selected after.stations xs) (executes xs)
      (not (list_any (lets_through after.select_ms (command_at xs) now) after.selections))
      (ap (λ (sts : List StationInfo). must_be_selected sts xs && executes xs) same ∙ off)

  pub other_passes : (must_be_selected stations xs && (selects xs || executes xs)) ≡ false
      → FindsPlaces stations xs (run stations sizes ms age calls).history
      → (judged xs now wall after).0 ≡ None
  other_passes free places =
      let off = parts_off (must_be_selected stations xs) (selects xs) (executes xs) free in
      no_rule (unasked off.1) (has_room stations sizes ms age calls xs places off.0)

  pub select_passes : selects xs ≡ true → of_others xs after.selections < 16
      → FindsPlaces stations xs (run stations sizes ms age calls).history
      → (judged xs now wall after).0 ≡ None
  select_passes selecting few places =
      let never : (must_be_selected stations xs && executes xs) ≡ false =
      ap (λ (b : Bool). must_be_selected stations xs && b) (no_execute xs selecting)
      ∙ any_off (must_be_selected stations xs) in
      let fewer : length (others (command_at xs) after) ≤ of_others xs after.selections =
      others_few xs after.select_ms after.selections in
      let room : nat_le 16 (length (others (command_at xs) after)) ≡ false =
      not_many _ _ fewer few in
      no_rule (unasked never) (or_off _ _ (has_waiting_room stations sizes ms age calls xs places)
      (ap (λ (b : Bool). must_be_selected after.stations xs && selects xs && b) room
      ∙ any_off (must_be_selected after.stations xs && selects xs)))

  pub execute_passes : NeverFall calls → latest calls ≤ now → executes xs ≡ true
      → IsSelected sizes stations ms age xs now (run stations sizes ms age calls).history
      → FindsPlaces stations xs (run stations sizes ms age calls).history
      → (judged xs now wall after).0 ≡ None
  execute_passes falls later executing selected places =
      no_rule (is_let stations sizes ms age calls falls now later xs wall faultless executing
      selected)
      (has_room stations sizes ms age calls xs places
      (ap (λ (b : Bool). must_be_selected stations xs && b) (no_select xs executing)
      ∙ any_off (must_be_selected stations xs)))

-- ---- a seventeenth select
