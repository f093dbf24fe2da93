-- How many commands went out to a station, and that nothing of a later place was accepted, or
-- stands on its line.
use Rattle.std.proofs.Common.{◌≡◌, ℕ, suc, ◌+◌, ◌<◌, ◌≤◌, ◌&&◌, ◌||◌, Bool, true, false, List, []}
use Rattle.std.proofs.Common.{◌∷◌, ◌++◌, length, drop, refl, sym, subst, ap, arith, rules}
use Rattle.std.specs.Prelude.{◌==◌, Option, Some, None, if◌then◌else◌, option_map}
use Rattle.std.proofs.lemmas.Bool.{and_parts, eqb-true}
use Rattle.std.proofs.lemmas.List.{length-append, length-drop}
use Rattle.command.specs.History.{History, Judged, Sent, Accepted, Refused, GivenUp, Mirrored}
use Rattle.command.specs.History.{Offered, Answered, Ended, first, is_for, is_place}
use Rattle.command.specs.History.{forwarded_to, sent_count, next_for, place_on_line}
use Rattle.command.specs.History.{is_accepted_at}
use Rattle.gateway.specs.Reports.{Setup}
use Rattle.delivery.proofs.AnyPlace.{Forwards, no_entry, no_truth}

one_left : (n : ℕ) (fw : List (List ℕ)) (x : List ℕ) → first (drop n fw) ≡ Some x
    → n < length fw
one_left n fw x e = by (drop n fw) refl e
  where
    by : (ys : List (List ℕ)) → drop n fw ≡ ys → first ys ≡ Some x → n < length fw
    by [] is f = absurd (no_entry f)
    by (y ∷ ys) is f =
        let some : length (drop n fw) ≡ suc (length ys) =
        ap (λ (zs : List (List ℕ)). length zs) is in
        omega (arith, some, length-drop n fw)

some_first : (f : List ℕ → List ℕ) (o : Option (List ℕ)) (octets : List ℕ)
    → option_map f o ≡ Some octets → (x : List ℕ) × (o ≡ Some x)
some_first f None octets e = absurd (no_entry e)
some_first f (Some x) octets e = (x, refl)

pub below_left : (b : Bool) (o : Option ℕ) (n : ℕ) → (if b then None else o) ≡ Some n → o ≡ Some n
below_left true o n e = absurd (no_entry e)
below_left false o n e = e

pub place_is : (n : ℕ) (o : Option ℕ) → is_place n o ≡ true → o ≡ Some n
place_is n None e = no_truth (sym e)
place_is n (Some m) e = ap (λ (k : ℕ). Some k) (eqb-true m n e)

module _ (p : Setup) where
  abbrev pub sent_at : ℕ → History → ℕ
  sent_at k h = sent_count p.sizes p.stations p.select_ms p.max_age_ms k h

  abbrev pub to_station : ℕ → History → List (List ℕ)
  to_station k h = forwarded_to p.sizes p.stations p.select_ms p.max_age_ms k h

  abbrev pub place_at : ℕ → History → Option ℕ
  place_at k h = place_on_line p.sizes p.stations p.select_ms p.max_age_ms k h

  abbrev pub is_taken : ℕ → ℕ → History → Bool
  is_taken k place h = is_accepted_at p.sizes p.stations p.select_ms p.max_age_ms k place h

  few_out : (k : ℕ) (h : History) → Forwards p h → sent_at k h ≤ length (to_station k h)
  few_out k [] f = omega arith
  few_out k (Judged now wall ys None ∷ h) f =
      by (is_for p.sizes p.stations p.select_ms p.max_age_ms k ys) (few_out k h f)
    where
      by : (b : Bool) → sent_at k h ≤ length (to_station k h)
          → sent_at k h ≤ length (if b then to_station k h ++ ys ∷ [] else to_station k h)
      by true few = (
          let more : length (to_station k h ++ ys ∷ []) ≡ length (to_station k h) + 1 =
          length-append (to_station k h) (ys ∷ []) in
          omega (arith, few, more))
      by false few = few
  few_out k (Judged now wall ys (Some a) ∷ h) f = few_out k h f
  few_out k (Sent j octets ∷ h) f = by (few_out k h f.1) (k == j) refl
    where
      less : sent_at j h < length (to_station j h)
      less =
          let some = some_first _ (next_for p.sizes p.stations p.select_ms p.max_age_ms j h) octets
          f.0 in
          one_left (sent_at j h) (to_station j h) some.0 some.1

      by : sent_at k h ≤ length (to_station k h) → (b : Bool) → (k == j) ≡ b
          → (if b then suc (sent_at k h) else sent_at k h) ≤ length (to_station k h)
      by few true is =
          subst (λ (i : ℕ). suc (sent_at i h) ≤ length (to_station i h))
          (sym (eqb-true k j is)) (omega (arith, less))
      by few false is = few
  few_out k (Accepted j ∷ h) f = few_out k h f
  few_out k (Refused j answer ∷ h) f = few_out k h f
  few_out k (GivenUp j was ∷ h) f = few_out k h f
  few_out k (Mirrored now v ∷ h) f = few_out k h f
  few_out k (Offered octets kept ∷ h) f = few_out k h f
  few_out k (Answered octets ∷ h) f = few_out k h f
  few_out k (Ended ∷ h) f = omega arith

  line_below : (k : ℕ) (h : History) (n : ℕ) → place_at k h ≡ Some n → n < sent_at k h
  line_below k [] n e = absurd (no_entry e)
  line_below k (Judged now wall ys a ∷ h) n e = line_below k h n e
  line_below k (Sent j octets ∷ h) n e = by (k == j) (line_below k h n) e
    where
      by : (b : Bool) → (place_at k h ≡ Some n → n < sent_at k h)
          → (if b then Some (sent_at k h) else place_at k h) ≡ Some n
          → n < (if b then suc (sent_at k h) else sent_at k h)
      by true rest f = (let same : sent_at k h ≡ n = search (rules, f) in omega (arith, same))
      by false rest f = rest f
  line_below k (Accepted j ∷ h) n e = line_below k h n (below_left (k == j) (place_at k h) n e)
  line_below k (Refused j a ∷ h) n e = line_below k h n (below_left (k == j) (place_at k h) n e)
  line_below k (GivenUp j b ∷ h) n e = line_below k h n (below_left (k == j) (place_at k h) n e)
  line_below k (Mirrored now v ∷ h) n e = line_below k h n e
  line_below k (Offered octets b ∷ h) n e = line_below k h n e
  line_below k (Answered octets ∷ h) n e = line_below k h n e
  line_below k (Ended ∷ h) n e = absurd (no_entry e)

  taken_below : (k n : ℕ) (h : History) → is_taken k n h ≡ true → n < sent_at k h
  taken_below k n [] e = no_truth (sym e)
  taken_below k n (Judged now wall ys a ∷ h) e = taken_below k n h e
  taken_below k n (Sent j octets ∷ h) e = by (k == j) (taken_below k n h e)
    where
      by : (b : Bool) → n < sent_at k h → n < (if b then suc (sent_at k h) else sent_at k h)
      by true below = omega (arith, below)
      by false below = below
  taken_below k n (Accepted j ∷ h) e =
      by (k == j && is_place n (place_at k h)) refl (taken_below k n h) e
    where
      by : (b : Bool) → (k == j && is_place n (place_at k h)) ≡ b
          → (is_taken k n h ≡ true → n < sent_at k h)
          → (b || is_taken k n h) ≡ true → n < sent_at k h
      by true is rest f =
          line_below k h n (place_is n (place_at k h)
          (and_parts (k == j) (is_place n (place_at k h)) is).1)
      by false is rest f = rest f
  taken_below k n (Refused j a ∷ h) e = taken_below k n h e
  taken_below k n (GivenUp j b ∷ h) e = taken_below k n h e
  taken_below k n (Mirrored now v ∷ h) e = taken_below k n h e
  taken_below k n (Offered octets b ∷ h) e = taken_below k n h e
  taken_below k n (Answered octets ∷ h) e = taken_below k n h e
  taken_below k n (Ended ∷ h) e = no_truth (sym e)

  -- nothing of a later place was accepted, stands there, or was confirmed
  pub not_taken : (k n : ℕ) (h : History) → Forwards p h → length (to_station k h) ≤ n
      → is_taken k n h ≡ true → ⊥
  not_taken k n h f past e =
      let below : n < sent_at k h = taken_below k n h e in
      let few : sent_at k h ≤ length (to_station k h) = few_out k h f in
      omega (arith, below, few, past)

  pub not_there : (k n : ℕ) (h : History) → Forwards p h → length (to_station k h) ≤ n
      → place_at k h ≡ Some n → ⊥
  not_there k n h f past e =
      let below : n < sent_at k h = line_below k h n e in
      let few : sent_at k h ≤ length (to_station k h) = few_out k h f in
      omega (arith, below, few, past)
