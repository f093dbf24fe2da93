-- How far a select has come: what was confirmed was accepted before, and what was accepted went out
-- before, behind the select.
use Rattle.std.proofs.Common.{◌≡◌, ℕ, suc, ◌-◌, ◌<◌, ◌≤◌, inl, inr, ◌&&◌, ◌||◌, Bool, true}
use Rattle.std.proofs.Common.{false, not, List, [], ◌∷◌, refl, sym, subst, ap, ◌∙◌, arith}
use Rattle.std.proofs.Common.{rules}
use Rattle.std.specs.Prelude.{◌==◌, Option, Some, None, if◌then◌else◌, is_none, nat_lt, option_map}
use Rattle.std.proofs.lemmas.Bool.{and_parts, eqb-true}
use Rattle.asdu.specs.Asdu.{AsduValue}
use Rattle.asdu.specs.declared.sizes.Sizes.{Sizes}
use Rattle.command.specs.declared.station.StationInfo.{StationInfo}
use Rattle.command.specs.declared.waiting.Waiting.{Waiting}
use Rattle.command.specs.Standard.{station_of}
use Rattle.command.specs.Standard.{confirms_command}
use Rattle.command.specs.State.{oldest_for, first_answer}
use Rattle.command.specs.History.{Judged, Sent, Accepted, Refused, GivenUp, Mirrored}
use Rattle.command.specs.History.{Offered, Answered, Ended, History, Select}
use Rattle.command.specs.History.{sent_count, is_place}
use Rattle.command.specs.History.{place_on_line, is_accepted_at, confirmed_at}
use Rattle.command.specs.Calls.{Call, Judge, PutOnLine, Accept, Busy, Lose, Mirror, Own, SendOwn}
use Rattle.command.specs.Calls.{Cut, Due, Run, run, after_sending, after_answer}
use Rattle.command.specs.Confirming.{GoOn, ends_selection, clears_line}
use Rattle.command.specs.Confirming.{confirms_in_time}

pub and_false : (a : Bool) → (a && false) ≡ false
and_false true = refl
and_false false = refl

pub no_entry : {A : Type 0} {z : A} → None ≡ Some z → ⊥
no_entry e = search (rules, e)

pub no_truth : {A : Type 0} → true ≡ false → A
no_truth e = absurd (search (rules, e))

pub stays_or : (b c : Bool) → b ≡ false → c ≡ false → (b || c) ≡ false
stays_or true c e f = e
stays_or false c e f = f

kept_below : (b : Bool) (o : Option ℕ) (p : ℕ) → (if b then None else o) ≡ Some p → o ≡ Some p
kept_below true o p e = absurd (no_entry e)
kept_below false o p e = e

not_there : (b : Bool) (o : Option ℕ) (p : ℕ) → (if b then None else o) ≡ Some p → b ≡ false
not_there true o p e = absurd (no_entry e)
not_there false o p e = refl

place_is : (p : ℕ) (o : Option ℕ) → is_place p o ≡ true → o ≡ Some p
place_is p None e = absurd (search (rules, e))
place_is p (Some n) e = ap (λ (k : ℕ). Some k) (eqb-true n p e)

module _ (stations : List StationInfo) (sizes : Sizes) (ms age : ℕ) where
  abbrev after : List Call → Run
  after calls = run stations sizes ms age calls

  abbrev before : List Call → History
  before calls = (after calls).history

  abbrev sent_at : ℕ → History → ℕ
  sent_at k h = sent_count sizes stations ms age k h

  abbrev place_at : ℕ → History → Option ℕ
  place_at k h = place_on_line sizes stations ms age k h

  abbrev is_taken : ℕ → ℕ → History → Bool
  is_taken k p h = is_accepted_at sizes stations ms age k p h

  -- ---- what stands on a line, or was accepted there, went out

  more : (k j p : ℕ) (h : History) → p < sent_at k h
      → p < (if k == j then suc (sent_at k h) else sent_at k h)
  more k j p h below = by (k == j)
    where
      by : (b : Bool) → p < (if b then suc (sent_at k h) else sent_at k h)
      by true = omega (arith, below)
      by false = below

  line_below : (k : ℕ) (h : History) (p : ℕ) → place_at k h ≡ Some p → p < sent_at k h
  line_below k [] p e = absurd (no_entry e)
  line_below k (Judged now wall ys a ∷ h) p e = line_below k h p e
  line_below k (Sent j octets ∷ h) p e = by (k == j) (line_below k h p) e
    where
      by : (b : Bool) → (place_at k h ≡ Some p → p < sent_at k h)
          → (if b then Some (sent_at k h) else place_at k h) ≡ Some p
          → p < (if b then suc (sent_at k h) else sent_at k h)
      by true rest f =
          let same : sent_at k h ≡ p = search (rules, f) in
          omega (arith, same)
      by false rest f = rest f
  line_below k (Accepted j ∷ h) p e = line_below k h p (kept_below (k == j) (place_at k h) p e)
  line_below k (Refused j a ∷ h) p e = line_below k h p (kept_below (k == j) (place_at k h) p e)
  line_below k (GivenUp j b ∷ h) p e = line_below k h p (kept_below (k == j) (place_at k h) p e)
  line_below k (Mirrored now v ∷ h) p e = line_below k h p e
  line_below k (Offered octets b ∷ h) p e = line_below k h p e
  line_below k (Answered octets ∷ h) p e = line_below k h p e
  line_below k (Ended ∷ h) p e = absurd (no_entry e)

  taken_below : (k p : ℕ) (h : History) → is_taken k p h ≡ true → p < sent_at k h
  taken_below k p [] e = no_truth (sym e)
  taken_below k p (Judged now wall ys a ∷ h) e = taken_below k p h e
  taken_below k p (Sent j octets ∷ h) e = more k j p h (taken_below k p h e)
  taken_below k p (Accepted j ∷ h) e =
      by (k == j && is_place p (place_at k h)) refl (taken_below k p h) e
    where
      by : (b : Bool) → (k == j && is_place p (place_at k h)) ≡ b
          → (is_taken k p h ≡ true → p < sent_at k h)
          → (b || is_taken k p h) ≡ true → p < sent_at k h
      by true is rest f =
          line_below k h p (place_is p (place_at k h)
          (and_parts (k == j) (is_place p (place_at k h)) is).1)
      by false is rest f = rest f
  taken_below k p (Refused j a ∷ h) e = taken_below k p h e
  taken_below k p (GivenUp j b ∷ h) e = taken_below k p h e
  taken_below k p (Mirrored now v ∷ h) e = taken_below k p h e
  taken_below k p (Offered octets b ∷ h) e = taken_below k p h e
  taken_below k p (Answered octets ∷ h) e = taken_below k p h e
  taken_below k p (Ended ∷ h) e = no_truth (sym e)

  -- ---- what is confirmed was accepted

  confirmed_taken : (z : Select) (h : History) (m : ℕ)
      → confirmed_at sizes stations ms age z h ≡ Some m
      → is_taken (station_of stations z.octets) z.place h ≡ true
  confirmed_taken z [] m e = absurd (no_entry e)
  confirmed_taken z (Judged now wall ys a ∷ h) m e = confirmed_taken z h m e
  confirmed_taken z (Sent j octets ∷ h) m e = confirmed_taken z h m e
  confirmed_taken z (Accepted j ∷ h) m e =
      ap (λ (b : Bool). (station_of stations z.octets == j
      && is_place z.place (place_at (station_of stations z.octets) h)) || b)
      (confirmed_taken z h m e)
      ∙ or_true (station_of stations z.octets == j
      && is_place z.place (place_at (station_of stations z.octets) h))
    where
      or_true : (b : Bool) → (b || true) ≡ true
      or_true true = refl
      or_true false = refl
  confirmed_taken z (Refused j a ∷ h) m e = confirmed_taken z h m e
  confirmed_taken z (GivenUp j b ∷ h) m e = confirmed_taken z h m e
  confirmed_taken z (Mirrored now v ∷ h) m e =
      by ((confirms_command z.octets v && nat_lt (now - z.came) ms)
      && is_taken (station_of stations z.octets) z.place h) refl (confirmed_taken z h m) e
    where
      by : (b : Bool)
          → ((confirms_command z.octets v && nat_lt (now - z.came) ms)
          && is_taken (station_of stations z.octets) z.place h) ≡ b
          → (confirmed_at sizes stations ms age z h ≡ Some m
          → is_taken (station_of stations z.octets) z.place h ≡ true)
          → (if b then Some now else confirmed_at sizes stations ms age z h) ≡ Some m
          → is_taken (station_of stations z.octets) z.place h ≡ true
      by true is rest f =
          (and_parts (confirms_command z.octets v && nat_lt (now - z.came) ms)
          (is_taken (station_of stations z.octets) z.place h) is).1
      by false is rest f = rest f
  confirmed_taken z (Offered octets b ∷ h) m e = confirmed_taken z h m e
  confirmed_taken z (Answered octets ∷ h) m e = confirmed_taken z h m e
  confirmed_taken z (Ended ∷ h) m e = absurd (no_entry e)

  -- ---- behind a select that didn't go out yet

  module _ (xs : List ℕ) (z : Select) (base : List Call) where
    abbrev home : ℕ
    home = station_of stations z.octets

    abbrev ends : Call → List Call → Bool
    ends = ends_selection stations sizes ms age xs

    abbrev leaves : Call → List Call → Bool
    leaves call earlier = ends call earlier || clears_line stations sizes ms age home call earlier

    abbrev renews : Call → List Call → Bool
    renews call earlier =
        ends call earlier || confirms_in_time stations sizes ms age z.octets z.came call

    pub record Sending (calls : List Call) : Type 0 where
      pub waiting : List Call
      pub waits : GoOn ends base waiting
      pub in_turn : sent_at home (before waiting) ≡ z.place
      pub stands : GoOn leaves (PutOnLine home ∷ waiting) calls

    pub record Acceptance (calls : List Call) : Type 0 where
      pub on_line : List Call
      pub goes_on : GoOn ends base on_line
      pub there : place_at home (before on_line) ≡ Some z.place
      pub awaits : GoOn ends (Accept home ∷ on_line) calls

    pub record Confirmation (m : ℕ) (calls : List Call) : Type 0 where
      pub accepted : List Call
      pub goes_on : GoOn ends base accepted
      pub taken : is_taken home z.place (before accepted) ≡ true
      pub answer : AsduValue
      pub confirms : confirms_command z.octets answer ≡ true
      pub in_time : nat_lt (m - z.came) ms ≡ true
      pub lasts : GoOn renews (Mirror answer m ∷ accepted) calls

    module _ (unsent : sent_at home (before base) ≤ z.place) where
      not_yet : (calls : List Call) → base ≡ calls → z.place < sent_at home (before calls) → ⊥
      not_yet calls same below =
          let at : z.place < sent_at home (before base) =
          subst (λ (cs : List Call). z.place < sent_at home (before cs)) (sym same) below in
          omega (arith, at, unsent)

      sending_later : (call : Call) (calls : List Call) → leaves call calls ≡ false
          → Sending calls → Sending (call ∷ calls)
      sending_later call calls test s = record {
        waiting = s.waiting;
        waits = s.waits;
        in_turn = s.in_turn;
        stands = inr (test, s.stands);
      }

      pub sending : (calls : List Call) → GoOn ends base calls
          → place_at home (before calls) ≡ Some z.place → Sending calls
      sending [] g e = absurd (no_entry e)
      sending (call ∷ calls) (inl same) e =
          absurd (not_yet (call ∷ calls) same
          (line_below home (before (call ∷ calls)) z.place e))
      sending (Judge ys m wall ∷ calls) (inr (n, g)) e =
          sending_later (Judge ys m wall) calls (stays_or (ends (Judge ys m wall) calls) false n
          refl)
          (sending calls g e)
      sending (PutOnLine j ∷ calls) (inr (n, g)) e =
          by (oldest_for j (after calls).state) refl e (sending calls g)
        where
          by : (o : Option Waiting) → oldest_for j (after calls).state ≡ o
              → place_at home (after_sending o j (after calls)).history ≡ Some z.place
              → (place_at home (before calls) ≡ Some z.place → Sending calls)
              → Sending (PutOnLine j ∷ calls)
          by None none f rest =
              sending_later (PutOnLine j) calls
              (ap (λ (o : Option Waiting). home == j && not (is_none (option_map
              (λ (w : Waiting). w.octets) o))) none ∙ and_false (home == j))
              (rest f)
          by (Some w) some f rest = at (home == j) refl f
            where
              at : (b : Bool) → (home == j) ≡ b
                  → (if b then Some (sent_at home (before calls)) else place_at home (before calls))
                  ≡ Some z.place
                  → Sending (PutOnLine j ∷ calls)
              at true is f = record {
                waiting = calls;
                waits = g;
                in_turn = search (rules, f);
                stands = inl (ap (λ (k : ℕ). PutOnLine k ∷ calls) (eqb-true home j is));
              }
              at false is f =
                  sending_later (PutOnLine j) calls
                  (ap (λ (b : Bool). b && not (is_none (option_map (λ (w : Waiting). w.octets)
                  (oldest_for j (after calls).state)))) is)
                  (rest f)
      sending (Accept j ∷ calls) (inr (n, g)) e =
          sending_later (Accept j) calls
          (not_there (home == j) (place_at home (before calls)) z.place e)
          (sending calls g (kept_below (home == j) (place_at home (before calls)) z.place e))
      sending (Busy j ∷ calls) (inr (n, g)) e =
          sending_later (Busy j) calls
          (not_there (home == j) (place_at home (before calls)) z.place e)
          (sending calls g (kept_below (home == j) (place_at home (before calls)) z.place e))
      sending (Lose j ∷ calls) (inr (n, g)) e =
          sending_later (Lose j) calls
          (not_there (home == j) (place_at home (before calls)) z.place e)
          (sending calls g (kept_below (home == j) (place_at home (before calls)) z.place e))
      sending (Mirror v m ∷ calls) (inr (n, g)) e =
          sending_later (Mirror v m) calls (stays_or (ends (Mirror v m) calls) false n refl)
          (sending calls g e)
      sending (Own octets ∷ calls) (inr (n, g)) e =
          sending_later (Own octets) calls refl (sending calls g e)
      sending (SendOwn ∷ calls) (inr (n, g)) e =
          sending_later SendOwn calls refl
          (by (first_answer (after calls).state.answers) (sending calls g) e)
        where
          by : (o : Option (List ℕ)) → (place_at home (before calls) ≡ Some z.place → Sending calls)
              → place_at home (after_answer o (after calls)).history ≡ Some z.place
              → Sending calls
          by None rest f = rest f
          by (Some octets) rest f = rest f
      sending (Cut ∷ calls) (inr (n, g)) e = no_truth n
      sending (Due m ∷ calls) (inr (n, g)) e =
          sending_later (Due m) calls refl (sending calls g e)

      acceptance_later : (call : Call) (calls : List Call) → ends call calls ≡ false
          → Acceptance calls → Acceptance (call ∷ calls)
      acceptance_later call calls test s = record {
        on_line = s.on_line;
        goes_on = s.goes_on;
        there = s.there;
        awaits = inr (test, s.awaits);
      }

      pub acceptance : (calls : List Call) → GoOn ends base calls
          → is_taken home z.place (before calls) ≡ true → Acceptance calls
      acceptance [] g e = no_truth (sym e)
      acceptance (call ∷ calls) (inl same) e =
          absurd (not_yet (call ∷ calls) same
          (taken_below home z.place (before (call ∷ calls)) e))
      acceptance (Judge ys m wall ∷ calls) (inr (n, g)) e =
          acceptance_later (Judge ys m wall) calls n (acceptance calls g e)
      acceptance (PutOnLine j ∷ calls) (inr (n, g)) e =
          acceptance_later (PutOnLine j) calls n
          (by (oldest_for j (after calls).state) (acceptance calls g) e)
        where
          by : (o : Option Waiting)
              → (is_taken home z.place (before calls) ≡ true → Acceptance calls)
              → is_taken home z.place (after_sending o j (after calls)).history ≡ true
              → Acceptance calls
          by None rest f = rest f
          by (Some w) rest f = rest f
      acceptance (Accept j ∷ calls) (inr (n, g)) e =
          by (home == j && is_place z.place (place_at home (before calls))) refl
          (acceptance calls g) e
        where
          by : (b : Bool) → (home == j && is_place z.place (place_at home (before calls))) ≡ b
              → (is_taken home z.place (before calls) ≡ true → Acceptance calls)
              → (b || is_taken home z.place (before calls)) ≡ true
              → Acceptance (Accept j ∷ calls)
          by true is rest f =
              let parts : _ = and_parts (home == j)
              (is_place z.place (place_at home (before calls))) is in
              record {
                on_line = calls;
                goes_on = g;
                there = place_is z.place (place_at home (before calls)) parts.1;
                awaits = inl (ap (λ (k : ℕ). Accept k ∷ calls) (eqb-true home j parts.0));
              }
          by false is rest f = acceptance_later (Accept j) calls n (rest f)
      acceptance (Busy j ∷ calls) (inr (n, g)) e =
          acceptance_later (Busy j) calls n (acceptance calls g e)
      acceptance (Lose j ∷ calls) (inr (n, g)) e =
          acceptance_later (Lose j) calls n (acceptance calls g e)
      acceptance (Mirror v m ∷ calls) (inr (n, g)) e =
          acceptance_later (Mirror v m) calls n (acceptance calls g e)
      acceptance (Own octets ∷ calls) (inr (n, g)) e =
          acceptance_later (Own octets) calls n (acceptance calls g e)
      acceptance (SendOwn ∷ calls) (inr (n, g)) e =
          acceptance_later SendOwn calls n
          (by (first_answer (after calls).state.answers) (acceptance calls g) e)
        where
          by : (o : Option (List ℕ))
              → (is_taken home z.place (before calls) ≡ true → Acceptance calls)
              → is_taken home z.place (after_answer o (after calls)).history ≡ true
              → Acceptance calls
          by None rest f = rest f
          by (Some octets) rest f = rest f
      acceptance (Cut ∷ calls) (inr (n, g)) e = no_truth n
      acceptance (Due m ∷ calls) (inr (n, g)) e =
          acceptance_later (Due m) calls n (acceptance calls g e)

      confirmation_later : (m : ℕ) (call : Call) (calls : List Call) → renews call calls ≡ false
          → Confirmation m calls → Confirmation m (call ∷ calls)
      confirmation_later m call calls test s = record {
        accepted = s.accepted;
        goes_on = s.goes_on;
        taken = s.taken;
        answer = s.answer;
        confirms = s.confirms;
        in_time = s.in_time;
        lasts = inr (test, s.lasts);
      }

      pub confirmation : (m : ℕ) (calls : List Call) → GoOn ends base calls
          → confirmed_at sizes stations ms age z (before calls) ≡ Some m → Confirmation m calls
      confirmation m [] g e = absurd (no_entry e)
      confirmation m (call ∷ calls) (inl same) e =
          absurd (not_yet (call ∷ calls) same
          (taken_below home z.place (before (call ∷ calls))
          (confirmed_taken z (before (call ∷ calls)) m e)))
      confirmation m (Judge ys t wall ∷ calls) (inr (n, g)) e =
          confirmation_later m (Judge ys t wall) calls
          (stays_or (ends (Judge ys t wall) calls) false n refl) (confirmation m calls g e)
      confirmation m (PutOnLine j ∷ calls) (inr (n, g)) e =
          confirmation_later m (PutOnLine j) calls refl
          (by (oldest_for j (after calls).state) (confirmation m calls g) e)
        where
          by : (o : Option Waiting)
              → (confirmed_at sizes stations ms age z (before calls) ≡ Some m
              → Confirmation m calls)
              → confirmed_at sizes stations ms age z (after_sending o j (after calls)).history
              ≡ Some m
              → Confirmation m calls
          by None rest f = rest f
          by (Some w) rest f = rest f
      confirmation m (Accept j ∷ calls) (inr (n, g)) e =
          confirmation_later m (Accept j) calls refl (confirmation m calls g e)
      confirmation m (Busy j ∷ calls) (inr (n, g)) e =
          confirmation_later m (Busy j) calls refl (confirmation m calls g e)
      confirmation m (Lose j ∷ calls) (inr (n, g)) e =
          confirmation_later m (Lose j) calls refl (confirmation m calls g e)
      confirmation m (Mirror v t ∷ calls) (inr (n, g)) e =
          by (confirms_command z.octets v && nat_lt (t - z.came) ms) refl
          (is_taken home z.place (before calls)) refl (confirmation m calls g)
          (confirmed_taken z (before calls) m) e
        where
          by : (b : Bool) → (confirms_command z.octets v && nat_lt (t - z.came) ms) ≡ b
              → (c : Bool) → is_taken home z.place (before calls) ≡ c
              → (confirmed_at sizes stations ms age z (before calls) ≡ Some m
              → Confirmation m calls)
              → (confirmed_at sizes stations ms age z (before calls) ≡ Some m
              → is_taken home z.place (before calls) ≡ true)
              → (if b && c then Some t else confirmed_at sizes stations ms age z (before calls))
              ≡ Some m
              → Confirmation m (Mirror v t ∷ calls)
          by true is true at rest taken f =
              let parts : _ = and_parts (confirms_command z.octets v) (nat_lt (t - z.came) ms) is in
              let same : t ≡ m = search (rules, f) in
              subst (λ (k : ℕ). Confirmation k (Mirror v t ∷ calls)) same (record {
                accepted = calls;
                goes_on = g;
                taken = at;
                answer = v;
                confirms = parts.0;
                in_time = parts.1;
                lasts = inl refl;
              })
          by true is false at rest taken f = no_truth (sym (taken f) ∙ at)
          by false is c at rest taken f =
              confirmation_later m (Mirror v t) calls
              (stays_or (ends (Mirror v t) calls)
              (confirms_in_time stations sizes ms age z.octets z.came (Mirror v t)) n is)
              (rest f)
      confirmation m (Own octets ∷ calls) (inr (n, g)) e =
          confirmation_later m (Own octets) calls refl (confirmation m calls g e)
      confirmation m (SendOwn ∷ calls) (inr (n, g)) e =
          confirmation_later m SendOwn calls refl
          (by (first_answer (after calls).state.answers) (confirmation m calls g) e)
        where
          by : (o : Option (List ℕ))
              → (confirmed_at sizes stations ms age z (before calls) ≡ Some m
              → Confirmation m calls)
              → confirmed_at sizes stations ms age z (after_answer o (after calls)).history
              ≡ Some m
              → Confirmation m calls
          by None rest f = rest f
          by (Some octets) rest f = rest f
      confirmation m (Cut ∷ calls) (inr (n, g)) e = no_truth n
      confirmation m (Due t ∷ calls) (inr (n, g)) e =
          confirmation_later m (Due t) calls refl (confirmation m calls g e)
