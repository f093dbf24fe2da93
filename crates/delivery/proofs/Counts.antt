-- What is counted as lost is what the exchanges of the log show as lost.
use Rattle.std.proofs.Common.{◌≡◌, ◌≢◌, ℕ, zero, suc, ◌+◌, ◌<◌, ◌&&◌, ◌||◌, Bool, true, false, not}
use Rattle.std.proofs.Common.{List, [], ◌∷◌, ◌++◌, length, drop, Option, Some, None, refl, ap, sym}
use Rattle.std.proofs.Common.{subst, ◌∙◌, arith, if◌then◌else◌}
use Rattle.std.specs.Prelude.{◌==◌, slice_get, option_map}
use Rattle.std.specs.Option.{option_map_or}
use Rattle.std.proofs.lemmas.Bool.{eqb-true, eq-eqb}
use Rattle.std.proofs.lemmas.Option.{slice_get_within}
use Rattle.asdu.specs.declared.sizes.Sizes.{Sizes}
use Rattle.command.specs.declared.station.StationInfo.{StationInfo}
use Rattle.command.specs.Standard.{is_for_station}
use Rattle.command.specs.History.{History, Judged, Sent, Accepted, Refused, GivenUp, Mirrored}
use Rattle.command.specs.History.{Offered, Answered, Ended, is_on_line, first, forwarded_to}
use Rattle.command.specs.History.{sent_count, next_octets, GivesOwnAnswers}
use Rattle.command.specs.History.{ForwardsCommands, line_octets}
use Rattle.command.specs.Calls.{Lose, Run, after_call}
use Rattle.command.specs.Laws.{IsRun}
use Rattle.gateway.specs.Log.{Log, latest}
use Rattle.gateway.specs.Reports.{Setup}
use Rattle.gateway.specs.Course.{Course, room_in}
use Rattle.gateway.specs.Line.{done_in}
use Rattle.gateway.specs.Tallies.{given_up_in}
use Rattle.gateway.specs.Works.{Works, tasks_of, unless_silent_works, settled_works, unasked_works}
use Rattle.delivery.specs.Commands.{LineStep, Begun, Confirmed, Busy, Lost, last_sent, steps_logged}
use Rattle.delivery.specs.Counts.{lost_in, sum_upto}

-- ---- Sums

pub sum_same : (f g : ℕ → ℕ) (n : ℕ) → ((k : ℕ) → k < n → f k ≡ g k) → sum_upto f n ≡ sum_upto g n
sum_same f g zero same = refl
sum_same f g (suc n) same =
    ap (λ (a : ℕ). a + f n) (sum_same f g n (λ k lt. same k (omega (arith, lt))))
    ∙ ap (λ (a : ℕ). sum_upto g n + a) (same n (omega arith))

no_truth : true ≡ false → ⊥
no_truth e = cc

differ : (k j : ℕ) → k ≢ j → (k == j) ≡ false
differ k j apart = go (k == j) refl
  where
    go : (b : Bool) → (k == j) ≡ b → b ≡ false
    go true is = absurd (apart (eqb-true k j is))
    go false is = refl

-- one of the numbers is greater by one
sum_more : (f g : ℕ → ℕ) (n j : ℕ) → j < n → g j ≡ suc (f j)
    → ((k : ℕ) → (k == j) ≡ false → g k ≡ f k) → sum_upto g n ≡ suc (sum_upto f n)
sum_more f g zero j lt more same = absurd (omega (arith, lt))
sum_more f g (suc n) j lt more same =
    go (n == j) refl (λ (less : j < n). sum_more f g n j less more same)
  where
    add : (a b c d : ℕ) → a ≡ b → c ≡ suc d → a + c ≡ suc (b + d)
    add a b c d e h = omega (arith, e, h)

    before : (a b c d : ℕ) → a ≡ suc b → c ≡ d → a + c ≡ suc (b + d)
    before a b c d e h = omega (arith, e, h)

    apart : (n == j) ≡ false → n ≢ j
    apart is e = no_truth (sym (eq-eqb n j e) ∙ is)

    below : n ≢ j → j < n
    below other = omega (arith, lt, other)

    go : (b : Bool) → (n == j) ≡ b → (j < n → sum_upto g n ≡ suc (sum_upto f n))
        → sum_upto g n + g n ≡ suc (sum_upto f n + f n)
    go true is ih =
        let at : n ≡ j = eqb-true n j is in
        add (sum_upto g n) (sum_upto f n) (g n) (f n)
        (sum_same g f n (λ k less. same k (differ k j (λ (e : k ≡ j). omega (arith, e, at, less)))))
        (subst (λ (m : ℕ). g m ≡ suc (f m)) (sym at) more)
    go false is ih =
        before (sum_upto g n) (sum_upto f n) (g n) (f n) (ih (below (apart is))) (same n is)

-- ---- One more step of a station's line

abbrev stands_after : Bool → List LineStep → Bool
stands_after stands [] = stands
stands_after stands (Begun asdu ∷ steps) = stands_after true steps
stands_after stands (Confirmed asdu ∷ steps) = stands_after false steps
stands_after stands (Busy asdu ∷ steps) = stands_after false steps
stands_after stands (Lost ∷ steps) = stands_after false steps

-- how many are lost by one step, by whether one stands there
abbrev lost_by : Bool → LineStep → ℕ
lost_by true Lost = 1
lost_by false Lost = 0
lost_by stands (Begun asdu) = 0
lost_by stands (Confirmed asdu) = 0
lost_by stands (Busy asdu) = 0

abbrev begins : LineStep → Bool
begins (Begun asdu) = true
begins (Confirmed asdu) = false
begins (Busy asdu) = false
begins Lost = false

first_step : (stands : Bool) (x : LineStep) → lost_in stands (x ∷ []) ≡ lost_by stands x
first_step true (Begun asdu) = refl
first_step false (Begun asdu) = refl
first_step true (Confirmed asdu) = refl
first_step false (Confirmed asdu) = refl
first_step true (Busy asdu) = refl
first_step false (Busy asdu) = refl
first_step true Lost = refl
first_step false Lost = refl

none_before : (n : ℕ) → n ≡ 0 + n
none_before n = omega arith

one_before : (a b c : ℕ) → a ≡ b + c → suc a ≡ suc b + c
one_before a b c e = omega (arith, e)

lost_added : (stands : Bool) (steps : List LineStep) (x : LineStep)
    → lost_in stands (steps ++ x ∷ [])
    ≡ lost_in stands steps + lost_by (stands_after stands steps) x
lost_added stands [] x = first_step stands x ∙ none_before (lost_by stands x)
lost_added stands (Begun asdu ∷ steps) x = lost_added true steps x
lost_added stands (Confirmed asdu ∷ steps) x = lost_added false steps x
lost_added stands (Busy asdu ∷ steps) x = lost_added false steps x
lost_added true (Lost ∷ steps) x =
    one_before (lost_in false (steps ++ x ∷ [])) (lost_in false steps)
    (lost_by (stands_after false steps) x) (lost_added false steps x)
lost_added false (Lost ∷ steps) x = lost_added false steps x

stands_then : (stands : Bool) (steps : List LineStep) (x : LineStep)
    → stands_after stands (steps ++ x ∷ []) ≡ begins x
stands_then stands [] (Begun asdu) = refl
stands_then stands [] (Confirmed asdu) = refl
stands_then stands [] (Busy asdu) = refl
stands_then stands [] Lost = refl
stands_then stands (Begun asdu ∷ steps) x = stands_then true steps x
stands_then stands (Confirmed asdu ∷ steps) x = stands_then false steps x
stands_then stands (Busy asdu ∷ steps) x = stands_then false steps x
stands_then stands (Lost ∷ steps) x = stands_then false steps x

-- ---- The history

module _ (sizes : Sizes) (stations : List StationInfo) (ms age : ℕ) where
  abbrev on : ℕ → History → Bool
  on k h = is_on_line sizes stations ms age k h

  -- what stands on the line is what the steps leave there
  stands_on : (k : ℕ) (h : History) → stands_after false (steps_logged k h) ≡ on k h
  stands_on k [] = refl
  stands_on k (Sent j octets ∷ h) = go (k == j) (stands_on k h)
    where
      go : (b : Bool) → stands_after false (steps_logged k h) ≡ on k h
          → stands_after false (if b then steps_logged k h ++ Begun octets ∷ []
          else steps_logged k h)
          ≡ (b || on k h)
      go true ih = stands_then false (steps_logged k h) (Begun octets)
      go false ih = ih
  stands_on k (Accepted j ∷ h) = go (k == j) (stands_on k h)
    where
      go : (b : Bool) → stands_after false (steps_logged k h) ≡ on k h → stands_after false
          (if b then steps_logged k h ++ Confirmed (last_sent k h) ∷ [] else steps_logged k h)
          ≡ (not b && on k h)
      go true ih = stands_then false (steps_logged k h) (Confirmed (last_sent k h))
      go false ih = ih
  stands_on k (Refused j a ∷ h) = go (k == j) (stands_on k h)
    where
      go : (b : Bool) → stands_after false (steps_logged k h) ≡ on k h → stands_after false
          (if b then steps_logged k h ++ Busy (last_sent k h) ∷ [] else steps_logged k h)
          ≡ (not b && on k h)
      go true ih = stands_then false (steps_logged k h) (Busy (last_sent k h))
      go false ih = ih
  stands_on k (GivenUp j was ∷ h) = go (k == j) (stands_on k h)
    where
      go : (b : Bool) → stands_after false (steps_logged k h) ≡ on k h
          → stands_after false (if b then steps_logged k h ++ Lost ∷ [] else steps_logged k h)
          ≡ (not b && on k h)
      go true ih = stands_then false (steps_logged k h) Lost
      go false ih = ih
  stands_on k (Judged now wall xs a ∷ h) = stands_on k h
  stands_on k (Mirrored now v ∷ h) = stands_on k h
  stands_on k (Offered octets kept ∷ h) = stands_on k h
  stands_on k (Answered octets ∷ h) = stands_on k h
  stands_on k (Ended ∷ h) = stands_on k h

  -- ---- What stands on a line is one of the stations'

  nothing_first : (n : ℕ) → first (drop n []) ≡ None
  nothing_first zero = refl
  nothing_first (suc n) = refl

  none_forwarded : (k : ℕ) (h : History) → slice_get stations k ≡ None
      → forwarded_to sizes stations ms age k h ≡ []
  none_forwarded k [] none = refl
  none_forwarded k (Judged now wall xs None ∷ h) none =
      ap (λ (o : Option StationInfo). if option_map_or (is_for_station xs) o false
      then forwarded_to sizes stations ms age k h ++ xs ∷ []
      else forwarded_to sizes stations ms age k h) none ∙ none_forwarded k h none
  none_forwarded k (Judged now wall xs (Some a) ∷ h) none = none_forwarded k h none
  none_forwarded k (Sent j octets ∷ h) none = none_forwarded k h none
  none_forwarded k (Accepted j ∷ h) none = none_forwarded k h none
  none_forwarded k (Refused j a ∷ h) none = none_forwarded k h none
  none_forwarded k (GivenUp j was ∷ h) none = none_forwarded k h none
  none_forwarded k (Mirrored now v ∷ h) none = none_forwarded k h none
  none_forwarded k (Offered octets kept ∷ h) none = none_forwarded k h none
  none_forwarded k (Answered octets ∷ h) none = none_forwarded k h none
  none_forwarded k (Ended ∷ h) none = refl

  no_next : {X : Type 0} (o : Option X) (x : X) → o ≡ None → o ≡ Some x → ⊥
  no_next {X} o x none some = cc

  station_there : (k : ℕ) (h : History) (octets : List ℕ)
      → next_octets sizes stations ms age k h ≡ Some octets → k < length stations
  station_there k h octets next = go (slice_get stations k) refl
    where
      go : (o : Option StationInfo) → slice_get stations k ≡ o → k < length stations
      go (Some station) is = slice_get_within stations k station is
      go None is = absurd (no_next (next_octets sizes stations ms age k h) octets
          (ap (λ (l : List (List ℕ)). option_map (λ (xs : List ℕ). option_map_or
          (line_octets sizes xs) (slice_get stations k) [])
          (first (drop (sent_count sizes stations ms age k h) l))) (none_forwarded k h is)
          ∙ ap (option_map (λ (xs : List ℕ). option_map_or
          (line_octets sizes xs) (slice_get stations k) []))
          (nothing_first (sent_count sizes stations ms age k h))) next)

  stood : (b c : Bool) → (not b && c) ≡ true → c ≡ true
  stood true c e = cc
  stood false c e = e

  within : (k : ℕ) (h : History) → ForwardsCommands sizes stations ms age h → on k h ≡ true
      → k < length stations
  within k [] f is = cc
  within k (Sent j octets ∷ h) f is = go (k == j) refl is (λ e. within k h f.1 e)
    where
      go : (b : Bool) → (k == j) ≡ b → (b || on k h) ≡ true
          → (on k h ≡ true → k < length stations) → k < length stations
      go true at e ih = subst (λ (n : ℕ). n < length stations) (sym (eqb-true k j at))
          (station_there j h octets f.0)
      go false at e ih = ih e
  within k (Accepted j ∷ h) f is = within k h f (stood (k == j) (on k h) is)
  within k (Refused j a ∷ h) f is = within k h f (stood (k == j) (on k h) is)
  within k (GivenUp j was ∷ h) f is = within k h f (stood (k == j) (on k h) is)
  within k (Judged now wall xs a ∷ h) f is = within k h f is
  within k (Mirrored now v ∷ h) f is = within k h f is
  within k (Offered octets kept ∷ h) f is = within k h f is
  within k (Answered octets ∷ h) f is = within k h f is
  within k (Ended ∷ h) f is = within k h f is

  -- ---- The sum

  abbrev lost_at : History → ℕ → ℕ
  lost_at h k = lost_in false (steps_logged k h)

  abbrev with_step : Bool → ℕ → LineStep → History → List LineStep
  with_step b k x h = if b then steps_logged k h ++ x ∷ [] else steps_logged k h

  -- a step by which none is lost
  none_lost : (b : Bool) (k : ℕ) (x : LineStep) (h : History)
      → (b ≡ true → lost_by (on k h) x ≡ 0) → lost_in false (with_step b k x h) ≡ lost_at h k
  none_lost true k x h none =
      lost_added false (steps_logged k h) x
      ∙ ap (λ (s : Bool). lost_at h k + lost_by s x) (stands_on k h)
      ∙ ap (λ (n : ℕ). lost_at h k + n) (none refl) ∙ omega arith
  none_lost false k x h none = refl

  no_loss : (b : Bool) (x : LineStep) → (x ≡ Lost → ⊥) → lost_by b x ≡ 0
  no_loss b (Begun asdu) other = other_step b
    where
      other_step : (c : Bool) → lost_by c (Begun asdu) ≡ 0
      other_step true = refl
      other_step false = refl
  no_loss b (Confirmed asdu) other = other_step b
    where
      other_step : (c : Bool) → lost_by c (Confirmed asdu) ≡ 0
      other_step true = refl
      other_step false = refl
  no_loss b (Busy asdu) other = other_step b
    where
      other_step : (c : Bool) → lost_by c (Busy asdu) ≡ 0
      other_step true = refl
      other_step false = refl
  no_loss b Lost other = absurd (other refl)

  same_sum : (h : History) (g : ℕ → ℕ) → ((k : ℕ) → g k ≡ lost_at h k)
      → given_up_in h ≡ sum_upto (lost_at h) (length stations)
      → given_up_in h ≡ sum_upto g (length stations)
  same_sum h g same e = e ∙ sum_same (lost_at h) g (length stations) (λ k lt. sym (same k))

  pub lost_logged : (h : History) → GivesOwnAnswers sizes stations ms age h
      → ForwardsCommands sizes stations ms age h
      → given_up_in h ≡ sum_upto (lost_at h) (length stations)
  lost_logged [] a f = nothing (length stations)
    where
      nothing : (n : ℕ) → 0 ≡ sum_upto (lost_at []) n
      nothing zero = refl
      nothing (suc n) = nothing n ∙ omega arith
  lost_logged (Sent j octets ∷ h) a f =
      same_sum h (lost_at (Sent j octets ∷ h))
      (λ k. none_lost (k == j) k (Begun octets) h (λ at. no_loss (on k h) (Begun octets)
      (λ (e : Begun octets ≡ Lost). cc)))
      (lost_logged h a f.1)
  lost_logged (Accepted j ∷ h) a f =
      same_sum h (lost_at (Accepted j ∷ h))
      (λ k. none_lost (k == j) k (Confirmed (last_sent k h)) h
      (λ at. no_loss (on k h) (Confirmed (last_sent k h))
      (λ (e : Confirmed (last_sent k h) ≡ Lost). cc)))
      (lost_logged h a f)
  lost_logged (Refused j answer ∷ h) a f =
      same_sum h (lost_at (Refused j answer ∷ h))
      (λ k. none_lost (k == j) k (Busy (last_sent k h)) h
      (λ at. no_loss (on k h) (Busy (last_sent k h))
      (λ (e : Busy (last_sent k h) ≡ Lost). cc)))
      (lost_logged h a.1 f)
  lost_logged (GivenUp j true ∷ h) a f =
      let stood : on j h ≡ true = sym a.0 in
      let one : given_up_in h ≡ sum_upto (lost_at h) (length stations) = lost_logged h a.1 f in
      let more : sum_upto (lost_at (GivenUp j true ∷ h)) (length stations)
      ≡ suc (sum_upto (lost_at h) (length stations)) =
      sum_more (lost_at h) (lost_at (GivenUp j true ∷ h)) (length stations) j
      (within j h f stood)
      (ap (λ (b : Bool). lost_in false (with_step b j Lost h)) (eq-eqb j j refl)
      ∙ lost_added false (steps_logged j h) Lost
      ∙ ap (λ (s : Bool). lost_at h j + lost_by s Lost) (stands_on j h ∙ stood) ∙ omega arith)
      (λ k other. ap (λ (b : Bool). lost_in false (with_step b k Lost h)) other) in
      omega (arith, one, more)
  lost_logged (GivenUp j false ∷ h) a f =
      same_sum h (lost_at (GivenUp j false ∷ h))
      (λ k. none_lost (k == j) k Lost h (λ at. ap (λ (b : Bool). lost_by b Lost)
      (ap (λ (i : ℕ). on i h) (eqb-true k j at) ∙ sym a.0)))
      (lost_logged h a.1 f)
  lost_logged (Judged now wall xs None ∷ h) a f = lost_logged h a.1 f
  lost_logged (Judged now wall xs (Some answer) ∷ h) a f = lost_logged h a.1 f
  lost_logged (Mirrored now v ∷ h) a f = lost_logged h a f
  lost_logged (Offered octets kept ∷ h) a f = lost_logged h a f
  lost_logged (Answered octets ∷ h) a f = lost_logged h a f
  lost_logged (Ended ∷ h) a f = lost_logged h a f

-- ---- The step's end

-- what silence took down is given up by a call of its own
pub silent_run : (p : Setup) (o : Option ℕ) (w : Works)
    → IsRun p.stations p.sizes p.select_ms p.max_age_ms (tasks_of w)
    → IsRun p.stations p.sizes p.select_ms p.max_age_ms (tasks_of (unless_silent_works o w))
silent_run p None w made = made
silent_run p (Some station) w made =
    (Lose station ∷ made.0, ap (λ (r : Run). after_call (Lose station) r) made.1)

pub lost_done : (p : Setup) (log : Log) (c : Course)
    → (c.works.is_due ≡ false → c.works.serial.silent ≡ None)
    → given_up_in (done_in p log c).history
    ≡ given_up_in (unless_silent_works c.works.serial.silent c.works).history
lost_done p log c none = go c.works.is_due refl
  where
    w : Works
    w = c.works

    at : ℕ
    at = latest log

    room : Bool
    room = room_in p log c

    go : (b : Bool) → w.is_due ≡ b
        → given_up_in (if b then unasked_works at room (settled_works at w) else w).history
        ≡ given_up_in (unless_silent_works w.serial.silent w).history
    go true is = refl
    go false is =
        sym (ap (λ (o : Option ℕ). given_up_in (unless_silent_works o w).history) (none is))
