-- The order of the nine rules by which an ASDU from the control centre is judged (the causes are
-- those of IEC 60870-5-101, 7.2.3; the order is this gateway's own profile). Each rule is named
-- here after those that stand before it.
use Rattle.std.specs.Prelude.{◌≡◌, ℕ, ◌+◌, ◌<◌, true, false, List, [], ◌∷◌, Option, Some, None}
use Rattle.std.specs.List.{AllByRecursion}
use Rattle.elements.specs.TimeTag.{verdict_of}
use Rattle.command.specs.Octets.{answer}
use Rattle.command.specs.Standard.{Rule, unknown_type, unknown_cause, unknown_station}
use Rattle.command.specs.Standard.{unknown_object, malformed, not_permitted, not_fresh, tag_of}
use Rattle.command.specs.Standard.{negative_of}
use Rattle.command.specs.Rules.{not_selected, no_place}
use Rattle.command.specs.State.{State}
use Rattle.command.specs.Judging.{judged}
use Rattle.command.specs.Refusals.{refusal_of, tag_rule}
use Rattle.command.specs.declared.refusal.Refusal.{Refusal}
use Rattle.command.specs.declared.refusal.Refusal.TheVariants as refusal

-- none of these rules applies
abbrev pub NoneApplies : List Rule → Type 0
NoneApplies rules = AllByRecursion (λ r. r.applies ≡ false) rules

module _ (xs : List ℕ) (now : ℕ) (wall : Option ℕ) (s : State) where
  -- this rule is told of it, and its answer has this cause
  pub record IsRefusedBy (rule : Refusal) (cause : ℕ) : Type 0 where
    pub told : refusal_of xs now wall s ≡ Some rule
    pub answered : (judged xs now wall s).0 ≡ Some (answer cause xs)

  -- and nothing that is kept changes: no selection ends
  pub record IsFaulty (rule : Refusal) (cause : ℕ) : Type 0 where
    pub refused : IsRefusedBy rule cause
    pub unchanged : (judged xs now wall s).1 ≡ s

  pub record IsJudgedInOrder : Type 0 where
    pub kind : (unknown_type xs).applies ≡ true → IsFaulty refusal.TypeUnknown 44
    pub cause : NoneApplies (unknown_type xs ∷ []) → (unknown_cause xs).applies ≡ true →
        IsFaulty refusal.CauseUnknown 45
    pub station : NoneApplies (unknown_type xs ∷ unknown_cause xs ∷ []) →
        (unknown_station s.stations xs).applies ≡ true → IsFaulty refusal.AddressUnknown 46
    pub object : NoneApplies (unknown_type xs ∷ unknown_cause xs ∷ unknown_station s.stations xs
        ∷ []) → (unknown_object s.sizes xs).applies ≡ true → IsFaulty refusal.ObjectUnknown 47
    pub form : NoneApplies (unknown_type xs ∷ unknown_cause xs ∷ unknown_station s.stations xs
        ∷ unknown_object s.sizes xs ∷ []) → (malformed xs).applies ≡ true →
        IsFaulty refusal.NotOneObject (negative_of xs)
    pub state : NoneApplies (unknown_type xs ∷ unknown_cause xs ∷ unknown_station s.stations xs
        ∷ unknown_object s.sizes xs ∷ malformed xs ∷ []) → (not_permitted xs).applies ≡ true →
        IsFaulty refusal.NotPermitted (negative_of xs)
    pub age : NoneApplies (unknown_type xs ∷ unknown_cause xs ∷ unknown_station s.stations xs
        ∷ unknown_object s.sizes xs ∷ malformed xs ∷ not_permitted xs ∷ []) →
        (not_fresh s.max_age_ms wall xs).applies ≡ true →
        IsFaulty (tag_rule wall (verdict_of (tag_of xs))) (negative_of xs)
    pub selection : NoneApplies (unknown_type xs ∷ unknown_cause xs ∷ unknown_station s.stations xs
        ∷ unknown_object s.sizes xs ∷ malformed xs ∷ not_permitted xs
        ∷ not_fresh s.max_age_ms wall xs ∷ []) → (not_selected xs now s).applies ≡ true →
        IsRefusedBy refusal.NotSelected (negative_of xs)
    pub place : NoneApplies (unknown_type xs ∷ unknown_cause xs ∷ unknown_station s.stations xs
        ∷ unknown_object s.sizes xs ∷ malformed xs ∷ not_permitted xs
        ∷ not_fresh s.max_age_ms wall xs ∷ not_selected xs now s ∷ []) →
        (no_place xs s).applies ≡ true → IsRefusedBy refusal.NoPlace (negative_of xs)
    pub forwarded : NoneApplies (unknown_type xs ∷ unknown_cause xs ∷ unknown_station s.stations xs
        ∷ unknown_object s.sizes xs ∷ malformed xs ∷ not_permitted xs
        ∷ not_fresh s.max_age_ms wall xs ∷ not_selected xs now s ∷ no_place xs s ∷ []) →
        (refusal_of xs now wall s ≡ None) × ((judged xs now wall s).0 ≡ None)
