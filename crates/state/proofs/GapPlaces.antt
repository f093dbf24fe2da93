-- A gap of the last step, by the place that its station has now.
use Rattle.std.proofs.Common.{◌≡◌, ◌∙◌, ◌⊎◌, inl, inr, ℕ, ◌<◌, ◌≤◌, ◌==◌, Bool, true, false, List}
use Rattle.std.proofs.Common.{Option, Some, None, ap, arith, cond, get_or, length, refl, sym}
use Rattle.std.specs.List.{position_or_len}
use Rattle.std.specs.Prelude.{option_and_then, option_map, slice_get}
use Rattle.std.proofs.lemmas.Bool.{cases_lt, eq-eqb, eqb-true, lt-ltb}
use Rattle.std.proofs.lemmas.List.Quantifiers.{position-Some}
use Rattle.std.proofs.lemmas.List.Sums.{fails_before_first}
use Rattle.std.proofs.lemmas.Option.{get_or_from_slice_get, slice_get_within}
use Rattle.gateway.specs.Carried.{place_of}
use Rattle.gateway.specs.declared.settings.StationSettings.{StationSettings}
use Rattle.state.specs.Beginnings.{gap_now}
use Rattle.state.specs.Replays.{ReportedGap}

abbrev at_place : (session : ℕ) → Option ℕ → Option ReportedGap
at_place session place = option_map (λ (k : ℕ). (k, session)) place

-- it is told by the place of the station with the same link address
by_place : (before now : List StationSettings) (place session : ℕ) (s : StationSettings)
    → slice_get before place ≡ Some s
    → gap_now before now (Some (place, session)) ≡ at_place session (place_of s.address now)
by_place before now place session s is =
    ap (λ (o : Option StationSettings). at_place session
    (option_and_then (λ (x : StationSettings). place_of x.address now) o)) is

abbrev IsTold : (now : List StationSettings) → (session k number : ℕ) → (s t : StationSettings)
    → Type 0
IsTold now session k number s t = (t.address ≡ s.address) × (number ≡ session)

pub told : (before now : List StationSettings) (place session k number : ℕ)
    (s t : StationSettings) → slice_get before place ≡ Some s
    → gap_now before now (Some (place, session)) ≡ Some (k, number)
    → slice_get now k ≡ Some t → (t.address ≡ s.address) × (number ≡ session)
told before now place session k number s t is gap there =
    go (place_of s.address now) refl (sym (by_place before now place session s is) ∙ gap)
  where
    go : (o : Option ℕ) → place_of s.address now ≡ o → at_place session o ≡ Some (k, number)
        → IsTold now session k number s t
    go None at none = absurd (cc)
    go (Some j) at some =
        let pair : ◌≡◌ {A = ReportedGap} (j, session) (k, number) = cc in
        let same : j ≡ k = ap (λ (p : ReportedGap). p.0) pair in
        let found = position-Some (λ (x : StationSettings). x.address == s.address) now j t at in
        let here : get_or now j t ≡ t =
        ap (λ (n : ℕ). get_or now n t) same ∙ get_or_from_slice_get now k t t there in (
          eqb-true t.address s.address
              (sym (ap (λ (x : StationSettings). x.address == s.address) here) ∙ found.1),
          sym (ap (λ (p : ReportedGap). p.1) pair),
        )

some_passes : (p : StationSettings → Bool) (xs : List StationSettings) (i : ℕ)
    (y : StationSettings) → slice_get xs i ≡ Some y → p y ≡ true
    → position_or_len p xs < length xs
some_passes p xs i y there passes = go (cases_lt (position_or_len p xs) (length xs))
  where
    go : (position_or_len p xs < length xs) ⊎ (length xs ≤ position_or_len p xs)
        → position_or_len p xs < length xs
    go (inl less) = less
    go (inr past) =
        let fails : p (get_or xs i y) ≡ false =
        fails_before_first p xs i y (omega (arith, past, slice_get_within xs i y there)) in
        let here : p (get_or xs i y) ≡ true =
        ap p (get_or_from_slice_get xs i y y there) ∙ passes in
        let no : true ≡ false = sym here ∙ fails in cc

pub there : (before now : List StationSettings) (place session k : ℕ) (s t : StationSettings)
    → slice_get before place ≡ Some s → slice_get now k ≡ Some t → t.address ≡ s.address
    → (at : ℕ) × (at < length now) × (gap_now before now (Some (place, session))
    ≡ Some (at, session))
there before now place session k s t is stands same =
    let test : StationSettings → Bool = λ x. x.address == s.address in
    let at : ℕ = position_or_len test now in
    let within : at < length now = some_passes test now k t stands
    (eq-eqb t.address s.address same) in (
      at,
      within,
      by_place before now place session s is
          ∙ ap (λ (b : Bool). at_place session (cond b (Some at) None))
          (lt-ltb at (length now) within),
    )
