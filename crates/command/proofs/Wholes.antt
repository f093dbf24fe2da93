-- Each answer is whole, each guard holds for its station, and a deactivation may be of any age.
use Rattle.std.proofs.Common.{◌≡◌, ℕ, zero, suc, ◌<◌, ◌≤◌, ◌%◌, ◌&&◌, ◌||◌, Bool, true, false, not}
use Rattle.std.proofs.Common.{List, [], ◌∷◌, length, slice_index, refl, sym, subst, ap, ◌∙◌, arith}
use Rattle.std.specs.Prelude.{◌==◌, Option, Some, None, if◌then◌else◌, option_map, unwrap_or}
use Rattle.std.specs.Prelude.{slice_get}
use Rattle.std.specs.List.{AllByRecursion}
use Rattle.asdu.specs.declared.sizes.Sizes.{Sizes}
use Rattle.elements.specs.TimeTag.{verdict_of}
use Rattle.command.specs.declared.station.StationInfo.{StationInfo}
use Rattle.command.specs.Octets.{answer}
use Rattle.command.specs.Standard.{Rule, IsRefusal, first_cause, own_rules, cause_of_fault}
use Rattle.command.specs.Standard.{negative_of, is_activation, is_deactivating, common_address}
use Rattle.command.specs.Standard.{has_tag, tag_of, is_fresh, not_fresh, wants_select}
use Rattle.command.specs.Standard.{must_be_selected, unknown_type, unknown_cause, unknown_station}
use Rattle.command.specs.Standard.{unknown_object, malformed, not_permitted}
use Rattle.command.specs.History.{Judged, Sent, Accepted, Refused, GivenUp, Mirrored, Offered}
use Rattle.command.specs.History.{Answered, Ended, History, cause_given, on_line, GivesOwnAnswers}
use Rattle.command.specs.History.{ExecutesAreSelected, AnswersWholly, IsGuarded}
use Rattle.command.specs.Calls.{Call, run}
use Rattle.command.proofs.Bridge.{executes_selected}
use Rattle.command.proofs.Refusals.{refuses}
use Rattle.command.proofs.Runs.{run_holds}
use Rattle.command.proofs.Sendings.{same}

-- ---- answers

negative_known : (xs : List ℕ) → negative_of xs < 64
negative_known xs = go (is_activation xs)
  where
    go : (b : Bool) → (if b then 7 else 9) < 64
    go true = omega arith
    go false = omega arith

first_known : (rs : List Rule) (d : ℕ) → AllByRecursion (λ r. r.cause < 64) rs → d < 64
    → unwrap_or (first_cause rs) d < 64
first_known [] d all less = less
first_known (r ∷ rs) d all less = go (first_known rs d all.1 less) r.applies
  where
    go : unwrap_or (first_cause rs) d < 64 → (b : Bool)
        → unwrap_or (if b then Some r.cause else first_cause rs) d < 64
    go rest true = all.0
    go rest false = rest

module _ (sizes : Sizes) (stations : List StationInfo) (ms age : ℕ) where
  cause_known : (wall : Option ℕ) (xs : List ℕ) → cause_given sizes stations ms age wall xs < 64
  cause_known wall xs =
      let n : negative_of xs < 64 = negative_known xs in
      first_known (own_rules sizes stations age wall xs) (negative_of xs)
      (omega arith, (omega arith, (omega arith, (omega arith, (n, (n, (n, tt))))))) n

  is_refusal : (cause : ℕ) (xs a : List ℕ) → cause < 64 → a ≡ answer cause xs → 9 ≤ length xs
      → slice_index xs 2 < 256 → IsRefusal cause xs a
  is_refusal cause xs a known is long octet =
      let P : List ℕ → Type 0 = λ ys. IsRefusal cause xs ys in
      subst P (sym is) (refuses cause xs known long octet)

  none_of_busy : (o : Option (List ℕ)) → None ≡ option_map (λ xs. answer (negative_of xs) xs) o
      → o ≡ None
  none_of_busy None e = refl
  none_of_busy (Some xs) e = cc

  some_of_busy : (o : Option (List ℕ)) (a : List ℕ)
      → Some a ≡ option_map (λ xs. answer (negative_of xs) xs) o → (xs : List ℕ) × (o ≡ Some xs)
      × (9 ≤ length xs → slice_index xs 2 < 256 → IsRefusal (negative_of xs) xs a)
  some_of_busy None a e = absurd (let no : ⊥ = cc in no)
  some_of_busy (Some xs) a e =
      let is : a ≡ answer (negative_of xs) xs = cc in
      (xs, refl, λ long octet. is_refusal (negative_of xs) xs a (negative_known xs) is long octet)

  pub answers_wholly : (h : History) → GivesOwnAnswers sizes stations ms age h
      → AnswersWholly sizes stations ms age h
  answers_wholly [] g = tt
  answers_wholly (Judged now wall xs None ∷ h) g = answers_wholly h g.1
  answers_wholly (Judged now wall xs (Some a) ∷ h) g = (
    λ long octet. is_refusal (cause_given sizes stations ms age wall xs) xs a (cause_known wall xs)
        g.0 long octet,
    answers_wholly h g.1,
  )
  answers_wholly (Sent j octets ∷ h) g = answers_wholly h g
  answers_wholly (Accepted j ∷ h) g = answers_wholly h g
  answers_wholly (Refused j None ∷ h) g =
      (none_of_busy (on_line sizes stations ms age j h) g.0, answers_wholly h g.1)
  answers_wholly (Refused j (Some a) ∷ h) g =
      (some_of_busy (on_line sizes stations ms age j h) a g.0, answers_wholly h g.1)
  answers_wholly (GivenUp j b ∷ h) g = answers_wholly h g.1
  answers_wholly (Mirrored now v ∷ h) g = answers_wholly h g
  answers_wholly (Offered octets b ∷ h) g = answers_wholly h g
  answers_wholly (Answered octets ∷ h) g = answers_wholly h g
  answers_wholly (Ended ∷ h) g = answers_wholly h g

-- ---- guards

wanted : (xs : List ℕ) (x station : StationInfo) → x ≡ station → station.select ≡ true
    → common_address xs ≡ station.ca → wants_select xs x ≡ true
wanted xs x station is guarded at =
    let there : common_address xs ≡ x.ca = at ∙ ap (λ (s : StationInfo). s.ca) (sym is) in
    let asks : x.select ≡ true = ap (λ (s : StationInfo). s.select) is ∙ guarded in
    let equal : (common_address xs == x.ca) ≡ true =
    subst (λ (n : ℕ). (common_address xs == n) ≡ true) there (same (common_address xs)) in
    rw (equal, asks) refl

or_later : (a b : Bool) → b ≡ true → (a || b) ≡ true
or_later true b e = refl
or_later false b e = e

-- a command to a station that asks for selects has to be selected, at whichever place it stands
guarded_at : (stations : List StationInfo) (k : ℕ) (station : StationInfo) (xs : List ℕ)
    → slice_get stations k ≡ Some station → station.select ≡ true → common_address xs ≡ station.ca
    → must_be_selected stations xs ≡ true
guarded_at [] k station xs e guarded at = absurd (let no : ⊥ = cc in no)
guarded_at (x ∷ stations) zero station xs e guarded at =
    let is : x ≡ station = cc in
    let first : wants_select xs x ≡ true = wanted xs x station is guarded at in
    ap (λ (b : Bool). b || must_be_selected stations xs) first
guarded_at (x ∷ stations) (suc k) station xs e guarded at =
    or_later (wants_select xs x) (must_be_selected stations xs)
    (guarded_at stations k station xs e guarded at)

module _ (sizes : Sizes) (stations : List StationInfo) (ms age k : ℕ) (station : StationInfo)
    (stands : slice_get stations k ≡ Some station) (guarded : station.select ≡ true) where
  pub is_guarded : (h : History) → ExecutesAreSelected sizes stations ms age h
      → IsGuarded sizes stations ms age station h
  is_guarded [] e = tt
  is_guarded (Judged now wall xs None ∷ h) e =
      (λ at. e.0 (guarded_at stations k station xs stands guarded at), is_guarded h e.1)
  is_guarded (Judged now wall xs (Some a) ∷ h) e = is_guarded h e
  is_guarded (Sent j octets ∷ h) e = is_guarded h e
  is_guarded (Accepted j ∷ h) e = is_guarded h e
  is_guarded (Refused j a ∷ h) e = is_guarded h e
  is_guarded (GivenUp j b ∷ h) e = is_guarded h e
  is_guarded (Mirrored now v ∷ h) e = is_guarded h e
  is_guarded (Offered octets b ∷ h) e = is_guarded h e
  is_guarded (Answered octets ∷ h) e = is_guarded h e
  is_guarded (Ended ∷ h) e = is_guarded h e

-- ---- deactivations

middle_off : (a b c : Bool) → b ≡ false → (a && b && c) ≡ false
middle_off true b c e = rw e refl
middle_off false b c e = refl

not_both : (n : ℕ) → (n == 8) ≡ true → (n == 6) ≡ false
not_both n e = grind (arith, e)

-- the rule of the age applies to none
fresh_off : (age : ℕ) (wall : Option ℕ) (xs : List ℕ) → is_deactivating xs ≡ true
    → (not_fresh age wall xs).applies ≡ false
fresh_off age wall xs e = middle_off (has_tag (slice_index xs 0)) (is_activation xs)
    (not (is_fresh age wall (verdict_of (tag_of xs)))) (not_both (slice_index xs 2 % 64) e)

pub any_age : (sizes : Sizes) (stations : List StationInfo) (age : ℕ) (wall : Option ℕ)
    (xs : List ℕ)
    → is_deactivating xs ≡ true
    → cause_of_fault sizes stations age wall xs ≡ cause_of_fault sizes stations age None xs
any_age sizes stations age wall xs e =
    ap (λ (b : Bool). first_cause (unknown_type xs ∷ unknown_cause xs ∷ unknown_station stations xs
    ∷ unknown_object sizes xs ∷ malformed xs ∷ not_permitted xs ∷ record {
      applies = b;
      cause =
          negative_of xs;
    } ∷ []))
    (fresh_off age wall xs e ∙ sym (fresh_off age None xs e))

-- ---- every list of calls

pub run_selected : (stations : List StationInfo) (sizes : Sizes) (select_ms max_age_ms : ℕ)
    (calls : List Call)
    → ExecutesAreSelected sizes stations select_ms max_age_ms
    (run stations sizes select_ms max_age_ms calls).history
run_selected stations sizes select_ms max_age_ms calls =
    executes_selected sizes stations select_ms max_age_ms
    (run stations sizes select_ms max_age_ms calls).history
    (run_holds sizes stations select_ms max_age_ms calls).keeps.rightly
    (run_holds sizes stations select_ms max_age_ms calls).keeps.executes

pub run_guarded : (stations : List StationInfo) (sizes : Sizes) (select_ms max_age_ms : ℕ)
    (calls : List Call) (k : ℕ)
    (station : StationInfo) → slice_get stations k ≡ Some station → station.select ≡ true
    → IsGuarded sizes stations select_ms max_age_ms station
    (run stations sizes select_ms max_age_ms calls).history
run_guarded stations sizes select_ms max_age_ms calls k station stands guarded =
    is_guarded sizes stations select_ms max_age_ms k station stands guarded
    (run stations sizes select_ms max_age_ms calls).history
    (run_selected stations sizes select_ms max_age_ms calls)

pub run_wholly : (stations : List StationInfo) (sizes : Sizes) (select_ms max_age_ms : ℕ)
    (calls : List Call)
    → AnswersWholly sizes stations select_ms max_age_ms
    (run stations sizes select_ms max_age_ms calls).history
run_wholly stations sizes select_ms max_age_ms calls =
    answers_wholly sizes stations select_ms max_age_ms
    (run stations sizes select_ms max_age_ms calls).history
    (run_holds sizes stations select_ms max_age_ms calls).keeps.rightly
