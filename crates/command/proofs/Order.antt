-- The first rule that applies is the one that is told, and gives the answer.
use Rattle.std.proofs.Common.{◌≡◌, ℕ, ◌+◌, ◌-◌, ◌<◌, ◌++◌, Bool, true, false, not, List, [], ◌∷◌}
use Rattle.std.proofs.Common.{length, slice_index, refl, sym, ap, ◌∙◌}
use Rattle.std.specs.Prelude.{◌==◌, Option, Some, None, if◌then◌else◌, option_map}
use Rattle.std.proofs.lemmas.Bool.{and_parts, eqb-true}
use Rattle.elements.specs.TimeTag.{verdict_of}
use Rattle.elements.specs.declared.tag.Verdict.TheVariants as verdicts
use Rattle.command.specs.Octets.{answer}
use Rattle.command.specs.Command.{command_at, command_len, is_permitted}
use Rattle.command.specs.Standard.{Rule, first_cause, own_rules, cause_of_fault, unknown_type}
use Rattle.command.specs.Standard.{unknown_cause, unknown_station, unknown_object, malformed}
use Rattle.command.specs.Standard.{not_permitted, not_fresh, negative_of, tag_of}
use Rattle.command.specs.Standard.{is_activation}
use Rattle.command.specs.Rules.{not_selected, no_place, rules_for}
use Rattle.command.specs.State.{State}
use Rattle.command.specs.Judging.{judged, by_fault, is_single, lacks_place}
use Rattle.command.specs.Judging.{ends_selection, without_selection}
use Rattle.command.specs.Refusals.{refusal_of, rule_by, fault_rule, form_rule, tag_rule}
use Rattle.command.specs.declared.refusal.Refusal.{Refusal}
use Rattle.command.specs.declared.refusal.Refusal.TheVariants as refusal
use Rattle.command.specs.Order.{NoneApplies, IsFaulty, IsJudgedInOrder}
use Rattle.command.proofs.ReadAlike.{faults_read, single_read, permitted_read, held_up}
use Rattle.command.proofs.ReadAlike.{IsGood, good_read}
use Rattle.command.proofs.Ruled.{first_rule, lacks_read, place_left, places_read}
use Rattle.command.proofs.Outcomes.{applied, passed}

-- ---- lists of rules

none_of : (before rest : List Rule) → NoneApplies before
    → first_cause (before ++ rest) ≡ first_cause rest
none_of [] rest none = refl
none_of (r ∷ before) rest none =
    passed r (before ++ rest) none.0 ∙ none_of before rest none.1

first_of : (before : List Rule) (r : Rule) (rest : List Rule) → NoneApplies before
    → r.applies ≡ true
    → first_cause (before ++ r ∷ rest) ≡ Some r.cause
first_of before r rest none is = none_of before (r ∷ rest) none ∙ applied r rest is

these : (before rest : List Rule) → NoneApplies (before ++ rest) → NoneApplies before
these [] rest none = tt
these (r ∷ before) rest none = (none.0, these before rest none.1)

those : (before rest : List Rule) → NoneApplies (before ++ rest) → NoneApplies rest
those [] rest none = none
those (r ∷ before) rest none = those before rest none.1

-- ---- what is told

form_told : (wall : Option ℕ) (xs : List ℕ) → fault_rule (negative_of xs) wall xs
    ≡ form_rule wall xs
form_told wall xs = by (is_activation xs)
  where
    by : (b : Bool) → fault_rule (if b then 7 else 9) wall xs ≡ form_rule wall xs
    by true = refl
    by false = refl

module _ (xs : List ℕ) (wall : Option ℕ) where
  abbrev form_at : (malformed forbidden : Bool) → Refusal
  form_at m p =
      if m then refusal.NotOneObject
      else (if p then refusal.NotPermitted else tag_rule wall (verdict_of (tag_of xs)))

  several_told : (malformed xs).applies ≡ true → form_rule wall xs ≡ refusal.NotOneObject
  several_told is =
      ap (λ (b : Bool). form_at b (not (is_permitted (command_at xs))))
      (sym (single_read xs) ∙ is)

  -- its state is read if it is one whole object
  single_told : (malformed xs).applies ≡ false
      → form_rule wall xs ≡ form_at false (not_permitted xs).applies
  single_told is =
      let one : not (is_single xs) ≡ false = sym (single_read xs) ∙ is in
      let parts : _ = and_parts (slice_index xs 1 == 1)
      (length xs == command_len (slice_index xs 0)) (held_up (is_single xs) one) in
      ap (λ (b : Bool). form_at b (not (is_permitted (command_at xs)))) one
      ∙ ap (λ (b : Bool). form_at false (not b))
      (permitted_read xs (eqb-true (length xs) (command_len (slice_index xs 0)) parts.1))

  state_told : (malformed xs).applies ≡ false → (not_permitted xs).applies ≡ true
      → form_rule wall xs ≡ refusal.NotPermitted
  state_told one is = single_told one ∙ ap (λ (b : Bool). form_at false b) is

  age_told : (malformed xs).applies ≡ false → (not_permitted xs).applies ≡ false
      → form_rule wall xs ≡ tag_rule wall (verdict_of (tag_of xs))
  age_told one is = single_told one ∙ ap (λ (b : Bool). form_at false b) is

module _ (xs : List ℕ) (now : ℕ) (wall : Option ℕ) (s : State) where
  abbrev fault_is : Option ℕ → Type 0
  fault_is f = cause_of_fault s.sizes s.stations s.max_age_ms wall xs ≡ f

  told_by : (f : Option ℕ) → fault_is f → refusal_of xs now wall s ≡ rule_by f xs now wall s
  told_by f is = ap (λ (o : Option ℕ). rule_by o xs now wall s)
      (faults_read s.sizes s.stations s.max_age_ms wall xs ∙ is)

  judged_by : (f : Option ℕ) → fault_is f → judged xs now wall s ≡ by_fault f xs now s
  judged_by f is = ap (λ (o : Option ℕ). by_fault o xs now s)
      (faults_read s.sizes s.stations s.max_age_ms wall xs ∙ is)

  faulty : (rule : Refusal) (cause : ℕ) → fault_is (Some cause) → fault_rule cause wall xs ≡ rule
      → IsFaulty xs now wall s rule cause
  faulty rule cause is same = record {
    refused = record {
      told = told_by (Some cause) is ∙ ap (λ (r : Refusal). Some r) same;
      answered = ap (λ j. j.0) (judged_by (Some cause) is);
    };
    unchanged = ap (λ j. j.1) (judged_by (Some cause) is);
  }

  by_form : (rule : Refusal) → fault_is (Some (negative_of xs)) → form_rule wall xs ≡ rule
      → IsFaulty xs now wall s rule (negative_of xs)
  by_form rule is same = faulty rule (negative_of xs) is (form_told wall xs ∙ same)

  -- ---- what is kept

  abbrev left : State
  left = if ends_selection (command_at xs) then without_selection (command_at xs) s else s

  place_told : IsGood xs → lacks_place (command_at xs) left ≡ (no_place xs s).applies
  place_told g =
      place_left (command_at xs) s (ends_selection (command_at xs)) refl ∙ places_read xs s g

  abbrev kept_at : (unselected full : Bool) → Option Refusal
  kept_at u f =
      if u then Some refusal.NotSelected else (if f then Some refusal.NoPlace else None)

  kept_told : fault_is None
      → refusal_of xs now wall s ≡ kept_at (not_selected xs now s).applies (no_place xs s).applies
  kept_told is =
      let g : IsGood xs = good_read s.sizes s.stations s.max_age_ms wall xs is in
      told_by None is
      ∙ ap (λ (b : Bool). kept_at b (lacks_place (command_at xs) left)) (lacks_read xs now s g)
      ∙ ap (λ (b : Bool). kept_at (not_selected xs now s).applies b) (place_told g)

  abbrev given : Option ℕ → Option (List ℕ)
  given f = option_map (λ cause. answer cause xs) f

  answered_by : (f : Option ℕ) → first_cause (rules_for xs now wall s) ≡ f
      → (judged xs now wall s).0 ≡ given f
  answered_by f is = first_rule xs now wall s ∙ ap (λ (o : Option ℕ). given o) is

  -- ---- the law

  abbrev own : List Rule
  own = own_rules s.sizes s.stations s.max_age_ms wall xs

  abbrev types : List Rule
  types = unknown_type xs ∷ []

  abbrev causes : List Rule
  causes = unknown_type xs ∷ unknown_cause xs ∷ []

  abbrev stations : List Rule
  stations = unknown_type xs ∷ unknown_cause xs ∷ unknown_station s.stations xs ∷ []

  abbrev objects : List Rule
  objects =
      unknown_type xs ∷ unknown_cause xs ∷ unknown_station s.stations xs
      ∷ unknown_object s.sizes xs ∷ []

  abbrev forms : List Rule
  forms = objects ++ malformed xs ∷ []

  abbrev states : List Rule
  states = objects ++ malformed xs ∷ not_permitted xs ∷ []

  abbrev behind_object : List Rule
  behind_object = malformed xs ∷ not_permitted xs ∷ not_fresh s.max_age_ms wall xs ∷ []

  pub in_order : IsJudgedInOrder xs now wall s
  in_order = record {
    kind = λ is. faulty refusal.TypeUnknown 44
        (first_of [] (unknown_type xs) (unknown_cause xs ∷ unknown_station s.stations xs
        ∷ unknown_object s.sizes xs ∷ behind_object) tt is) refl;
    cause = λ none is. faulty refusal.CauseUnknown 45
        (first_of types (unknown_cause xs) (unknown_station s.stations xs
        ∷ unknown_object s.sizes xs ∷ behind_object) none is) refl;
    station = λ none is. faulty refusal.AddressUnknown 46
        (first_of causes (unknown_station s.stations xs)
        (unknown_object s.sizes xs ∷ behind_object) none is) refl;
    object = λ none is. faulty refusal.ObjectUnknown 47
        (first_of stations (unknown_object s.sizes xs) behind_object none is) refl;
    form = λ none is. by_form refusal.NotOneObject
        (first_of objects (malformed xs) (not_permitted xs ∷ not_fresh s.max_age_ms wall xs ∷ [])
        none is)
        (several_told xs wall is);
    state = λ none is. by_form refusal.NotPermitted
        (first_of forms (not_permitted xs) (not_fresh s.max_age_ms wall xs ∷ []) none is)
        (state_told xs wall none.1.1.1.1.0 is);
    age = λ none is. by_form (tag_rule wall (verdict_of (tag_of xs)))
        (first_of states (not_fresh s.max_age_ms wall xs) [] none is)
        (age_told xs wall none.1.1.1.1.0 none.1.1.1.1.1.0);
    selection = λ none is. record {
      told = kept_told (none_of own [] none)
          ∙ ap (λ (b : Bool). kept_at b (no_place xs s).applies) is;
      answered = answered_by (Some (negative_of xs))
          (first_of own (not_selected xs now s) (no_place xs s ∷ []) none is);
    };
    place = λ none is. record {
      told = kept_told (none_of own [] (these own (not_selected xs now s ∷ []) none))
          ∙ ap (λ (b : Bool). kept_at b (no_place xs s).applies)
          (those own (not_selected xs now s ∷ []) none).0
          ∙ ap (λ (b : Bool). kept_at false b) is;
      answered = answered_by (Some (negative_of xs))
          (first_of (own ++ not_selected xs now s ∷ []) (no_place xs s) [] none is);
    };
    forwarded = λ none. (
      kept_told (none_of own [] (these own (not_selected xs now s ∷ no_place xs s ∷ []) none))
          ∙ ap (λ (b : Bool). kept_at b (no_place xs s).applies)
          (those own (not_selected xs now s ∷ no_place xs s ∷ []) none).0
          ∙ ap (λ (b : Bool). kept_at false b)
          (those own (not_selected xs now s ∷ no_place xs s ∷ []) none).1.0,
      answered_by None (none_of (rules_for xs now wall s) [] none),
    );
  }

-- ---- ages
