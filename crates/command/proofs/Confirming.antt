-- A select that went out and that its station accepted and confirmed selects its execute, whatever
-- else lies between.
use Rattle.std.proofs.Common.{◌≡◌, ℕ, suc, ◌+◌, ◌-◌, ◌≤◌, inl, inr, ◌%◌, ◌&&◌, ◌||◌, Bool}
use Rattle.std.proofs.Common.{true, false, not, List, [], ◌∷◌, ◌++◌, length, slice_index, refl, sym}
use Rattle.std.proofs.Common.{subst, ap}
use Rattle.std.proofs.Common.{◌∙◌, arith, rules}
use Rattle.std.specs.Prelude.{◌==◌, Option, Some, None, if◌then◌else◌, is_none, nat_lt, slice_get}
use Rattle.std.specs.Prelude.{option_map}
use Rattle.std.specs.List.{list_any}
use Rattle.std.specs.Option.{option_map_or}
use Rattle.std.proofs.lemmas.Bool.{and_parts, eq-eqb, eqb-true, lt-ltb}
use Rattle.std.proofs.lemmas.List.{length-append}
use Rattle.asdu.specs.Asdu.{AsduValue}
use Rattle.asdu.specs.declared.sizes.Sizes.{Sizes}
use Rattle.command.specs.declared.station.StationInfo.{StationInfo}
use Rattle.command.specs.declared.waiting.Waiting.{Waiting}
use Rattle.command.specs.Standard.{common_address, object_address, plain_type, station_of}
use Rattle.command.specs.Standard.{must_be_selected, selects}
use Rattle.command.specs.Standard.{executes, is_deactivating, have_one_target, confirms_command}
use Rattle.command.specs.Standard.{refuses_command, is_object_of, is_only_object_of, is_for_each}
use Rattle.command.specs.Standard.{cause_of_fault, is_for_station}
use Rattle.command.specs.Judging.{judged}
use Rattle.command.specs.State.{oldest_for, first_answer}
use Rattle.command.specs.History.{Judged, History, Select, is_for, forwarded_to, sent_count}
use Rattle.command.specs.History.{begins_selection, is_place, standing, place_on_line}
use Rattle.command.specs.History.{is_accepted_at, confirmed_at, IsSelected}
use Rattle.command.specs.Calls.{Call, Judge, PutOnLine, Accept, Busy, Lose, Mirror, Own, SendOwn}
use Rattle.command.specs.Calls.{Cut, Due, Run, run, after_sending, after_answer}
use Rattle.command.specs.Confirming.{GoOn, ends_selection, clears_line, confirms_in_time}
use Rattle.command.specs.Confirming.{IsExchanged}
use Rattle.command.proofs.Coming.{all_sent}
use Rattle.command.proofs.Exchanged.{faultless}
use Rattle.command.proofs.Progress.{no_truth}
use Rattle.command.proofs.Runs.{run_holds}

record AreOne (xs ys : List ℕ) : Type 0 where
  kind : plain_type (slice_index xs 0) ≡ plain_type (slice_index ys 0)
  ca : common_address xs ≡ common_address ys
  object : object_address xs ≡ object_address ys

are_one : (xs ys : List ℕ) → have_one_target xs ys ≡ true → AreOne xs ys
are_one xs ys h =
    let p : _ = and_parts
    ((plain_type (slice_index xs 0) == plain_type (slice_index ys 0))
    && (common_address xs == common_address ys)) (object_address xs == object_address ys) h in
    let q : _ = and_parts (plain_type (slice_index xs 0) == plain_type (slice_index ys 0))
    (common_address xs == common_address ys) p.0 in
    record {
      kind = eqb-true (plain_type (slice_index xs 0)) (plain_type (slice_index ys 0)) q.0;
      ca = eqb-true (common_address xs) (common_address ys) q.1;
      object = eqb-true (object_address xs) (object_address ys) p.1;
    }

not_refused : (xs ys : List ℕ) (v : AsduValue) → confirms_command ys v ≡ true
    → refuses_command xs v ≡ false
not_refused xs ys v con =
    let seven : v.cause % 128 ≡ 7 =
    eqb-true (v.cause % 128) 7 (and_parts (v.cause % 128 == 7) (is_only_object_of ys v v.infos)
    con).0 in
    ap (λ (n : ℕ). n == 64 + 7 && list_any (is_object_of xs v) v.infos) seven

-- one that asks for selects is for its own station
is_own : (stations : List StationInfo) (ys : List ℕ) → must_be_selected stations ys ≡ true
    → option_map_or (is_for_station ys) (slice_get stations (station_of stations ys)) false ≡ true
is_own [] ys asks = no_truth (sym asks)
is_own (st ∷ sts) ys asks = by (common_address ys == st.ca) refl (is_own sts ys) asks
  where
    by : (b : Bool) → (common_address ys == st.ca) ≡ b
        → (must_be_selected sts ys ≡ true
        → option_map_or (is_for_station ys) (slice_get sts (station_of sts ys)) false ≡ true)
        → ((b && st.select) || must_be_selected sts ys) ≡ true
        → option_map_or (is_for_station ys)
        (slice_get (st ∷ sts) (if b then 0 else suc (station_of sts ys))) false ≡ true
    by true is rest f = ap (λ (b : Bool). b || is_for_each ys) is
    by false is rest f = rest f

asks_alike : (stations : List StationInfo) (xs ys : List ℕ) → common_address xs ≡ common_address ys
    → must_be_selected stations xs ≡ must_be_selected stations ys
asks_alike stations xs ys e =
    ap (λ (ca : ℕ). list_any (λ (st : StationInfo). ca == st.ca && st.select) stations) e

-- calls that go on from others which go on
join : (ends : Call → List Call → Bool) (a b c : List Call) (call : Call)
    → GoOn ends a b → ends call b ≡ false → GoOn ends (call ∷ b) c → GoOn ends a c
join ends a b [] call g off (h) = absurd (search (rules, h))
join ends a b (other ∷ c) call g off (inl is) =
    subst (λ (cs : List Call). GoOn ends a cs) is (inr (off, g))
join ends a b (other ∷ c) call g off (inr (n, h)) = inr (n, join ends a b c call g off h)

first_off : (a b : Bool) → (a || b) ≡ false → a ≡ false
first_off true b e = e
first_off false b e = refl

second_off : (a b : Bool) → (a || b) ≡ false → b ≡ false
second_off true b e = no_truth e
second_off false b e = e

module _ (ends other : Call → List Call → Bool) where
  fewer : (begin calls : List Call)
      → GoOn (λ call before. ends call before || other call before) begin calls
      → GoOn ends begin calls
  fewer begin [] g = g
  fewer begin (call ∷ calls) (inl is) = inl is
  fewer begin (call ∷ calls) (inr (n, g)) =
      inr (first_off (ends call calls) (other call calls) n, fewer begin calls g)

-- what each call that goes on keeps
module _ (ends : Call → List Call → Bool) (Holds : List Call → Type 0)
    (keeps : (call : Call) (calls : List Call) → ends call calls ≡ false → Holds calls
    → Holds (call ∷ calls)) where
  pub kept_by : (begin calls : List Call) → GoOn ends begin calls → Holds begin → Holds calls
  kept_by begin [] g holds = subst Holds g holds
  kept_by begin (call ∷ calls) (inl is) holds = subst Holds is holds
  kept_by begin (call ∷ calls) (inr (n, g)) holds = keeps call calls n (kept_by begin calls g holds)

module _ (stations : List StationInfo) (sizes : Sizes) (ms age : ℕ) where
  abbrev after : List Call → Run
  after calls = run stations sizes ms age calls

  abbrev before : List Call → History
  before calls = (after calls).history

  module _ (xs : List ℕ) where
    abbrev ends : Call → List Call → Bool
    ends = ends_selection stations sizes ms age xs

    abbrev stood : List Call → Option Select
    stood calls = standing sizes stations ms age xs (before calls)

    -- ---- the select stands

    judged_stays : (ys : List ℕ) (m : ℕ) (wall : Option ℕ) (calls : List Call)
        → ends (Judge ys m wall) calls ≡ false
        → stood (Judge ys m wall ∷ calls) ≡ stood calls
    judged_stays ys m wall calls off =
        by (is_none (cause_of_fault sizes stations age wall ys)) (have_one_target xs ys)
        (begins_selection sizes stations ms age a ys) (is_deactivating ys || executes ys)
        (first_off (begins_selection sizes stations ms age a ys && have_one_target xs ys)
        ((is_none (cause_of_fault sizes stations age wall ys) && have_one_target xs ys)
        && (is_deactivating ys || executes ys)) off)
        (second_off (begins_selection sizes stations ms age a ys && have_one_target xs ys)
        ((is_none (cause_of_fault sizes stations age wall ys) && have_one_target xs ys)
        && (is_deactivating ys || executes ys)) off)
      where
        a : Option (List ℕ)
        a = (judged ys m wall (after calls).state).0

        newer : Select
        newer = record {
          octets = ys;
          came = m;
          place = length (forwarded_to sizes stations ms age (station_of stations ys)
              (before calls));
        }

        by : (p t b d : Bool) → (b && t) ≡ false → ((p && t) && d) ≡ false
            → (if not (p && t) then stood calls
            else (if b then Some newer else (if d then None else stood calls))) ≡ stood calls
        by false t b d new used = refl
        by true false b d new used = refl
        by true true true d new used = no_truth new
        by true true false true new used = no_truth used
        by true true false false new used = refl

    stays : (z : Select) (call : Call) (calls : List Call) → ends call calls ≡ false
        → stood calls ≡ Some z → stood (call ∷ calls) ≡ Some z
    stays z (Judge ys m wall) calls off at = judged_stays ys m wall calls off ∙ at
    stays z (PutOnLine j) calls off at = by (oldest_for j (after calls).state)
      where
        by : (o : Option Waiting)
            → standing sizes stations ms age xs (after_sending o j (after calls)).history ≡ Some z
        by None = at
        by (Some w) = at
    stays z (Accept j) calls off at = at
    stays z (Busy j) calls off at = at
    stays z (Lose j) calls off at = at
    stays z (Mirror v m) calls off at = ap (λ (b : Bool). if b then None else stood calls) off ∙ at
    stays z (Own octets) calls off at = at
    stays z SendOwn calls off at = by (first_answer (after calls).state.answers)
      where
        by : (o : Option (List ℕ))
            → standing sizes stations ms age xs (after_answer o (after calls)).history ≡ Some z
        by None = at
        by (Some octets) = at
    stays z Cut calls off at = no_truth off
    stays z (Due m) calls off at = at

    -- it stands as soon as it is forwarded
    begun : (earlier : List Call) (ys : List ℕ) (came : ℕ) (wall : Option ℕ)
        (a : Option (List ℕ)) → a ≡ None
        → cause_of_fault sizes stations age wall ys ≡ None
        → have_one_target xs ys ≡ true
        → must_be_selected stations ys ≡ true
        → selects ys ≡ true
        → standing sizes stations ms age xs (Judged came wall ys a ∷ before earlier)
        ≡ Some (record {
          octets = ys;
          came = came;
          place = length (forwarded_to sizes stations ms age (station_of stations ys)
              (before earlier));
        })
    begun earlier ys came wall a forwarded faultless of asks selecting =
        ap (λ (b : Option (List ℕ)).
        standing sizes stations ms age xs (Judged came wall ys b ∷ before earlier)) forwarded
        ∙ (ap (λ (b : Bool). by b (must_be_selected stations ys && selects ys)) is_of
        ∙ ap (λ (b : Bool). by true b) begins)
      where
        newer : Select
        newer = record {
          octets = ys;
          came = came;
          place = length (forwarded_to sizes stations ms age (station_of stations ys)
              (before earlier));
        }

        by : Bool → Bool → Option Select
        by n m =
            if not n then stood earlier
            else (if m then Some newer
            else (if is_deactivating ys || executes ys then None else stood earlier))

        is_of : (is_none (cause_of_fault sizes stations age wall ys) && have_one_target xs ys)
            ≡ true
        is_of = ap (λ (o : Option ℕ). is_none o && have_one_target xs ys) faultless ∙ of

        begins : (must_be_selected stations ys && selects ys) ≡ true
        begins = ap (λ (b : Bool). b && selects ys) asks ∙ selecting

    -- ---- it waits

    abbrev count_to : ℕ → List Call → ℕ
    count_to k calls = length (forwarded_to sizes stations ms age k (before calls))

    grows : (k n : ℕ) (call : Call) (calls : List Call) → ends call calls ≡ false
        → n ≤ count_to k calls → n ≤ count_to k (call ∷ calls)
    grows k n (Judge ys m wall) calls off few = by (judged ys m wall (after calls).state).0
      where
        by : (a : Option (List ℕ))
            → n ≤ length (forwarded_to sizes stations ms age k (Judged m wall ys a ∷ before calls))
        by (Some b) = few
        by None = at (is_for sizes stations ms age k ys)
          where
            at : (b : Bool) → n ≤ length (if b
                then forwarded_to sizes stations ms age k (before calls) ++ ys ∷ []
                else forwarded_to sizes stations ms age k (before calls))
            at true =
                let long : _ = length-append (forwarded_to sizes stations ms age k (before calls))
                (ys ∷ []) in
                omega (arith, few, long)
            at false = few
    grows k n (PutOnLine j) calls off few = by (oldest_for j (after calls).state)
      where
        by : (o : Option Waiting)
            → n ≤ length (forwarded_to sizes stations ms age k
            (after_sending o j (after calls)).history)
        by None = few
        by (Some w) = few
    grows k n (Accept j) calls off few = few
    grows k n (Busy j) calls off few = few
    grows k n (Lose j) calls off few = few
    grows k n (Mirror v m) calls off few = few
    grows k n (Own octets) calls off few = few
    grows k n SendOwn calls off few = by (first_answer (after calls).state.answers)
      where
        by : (o : Option (List ℕ))
            → n ≤ length (forwarded_to sizes stations ms age k
            (after_answer o (after calls)).history)
        by None = few
        by (Some octets) = few
    grows k n Cut calls off few = no_truth off
    grows k n (Due m) calls off few = few

    added : (ys : List ℕ) (came : ℕ) (wall : Option ℕ) (earlier : List Call)
        (a : Option (List ℕ)) → a ≡ None → must_be_selected stations ys ≡ true
        → suc (count_to (station_of stations ys) earlier)
        ≤ length (forwarded_to sizes stations ms age (station_of stations ys)
        (Judged came wall ys a ∷ before earlier))
    added ys came wall earlier (Some b) is asks = absurd (search (rules, is))
    added ys came wall earlier None is asks =
        at (is_for sizes stations ms age (station_of stations ys) ys) (is_own stations ys asks)
      where
        all : List (List ℕ)
        all = forwarded_to sizes stations ms age (station_of stations ys) (before earlier)

        at : (b : Bool) → b ≡ true → suc (length all) ≤ length (if b then all ++ ys ∷ [] else all)
        at false e = no_truth (sym e)
        at true e =
            let long : length (all ++ ys ∷ []) ≡ length all + length (ys ∷ []) =
            length-append all (ys ∷ []) in
            omega (arith, long)

    -- ---- it stands on the line

    abbrev place_at : ℕ → List Call → Option ℕ
    place_at k calls = place_on_line sizes stations ms age k (before calls)

    goes_out : (k p : ℕ) (calls : List Call)
        → sent_count sizes stations ms age k (before calls) ≡ p
        → suc p ≤ count_to k calls
        → place_at k (PutOnLine k ∷ calls) ≡ Some p
    goes_out k p calls sent long = by (oldest_for k (after calls).state) refl
      where
        by : (o : Option Waiting) → oldest_for k (after calls).state ≡ o
            → place_on_line sizes stations ms age k (after_sending o k (after calls)).history
            ≡ Some p
        by None none =
            let all : _ = all_sent sizes stations ms age calls k
            (ap (λ (o : Option Waiting). option_map (λ (w : Waiting). w.octets) o) none) in
            absurd (omega (arith, all, sent, long))
        by (Some w) some =
            ap (λ (b : Bool). if b then Some (sent_count sizes stations ms age k (before calls))
            else place_at k calls) (eq-eqb k k refl)
            ∙ ap (λ (n : ℕ). Some n) sent

    line_stays : (k p : ℕ) (call : Call) (calls : List Call)
        → (ends call calls || clears_line stations sizes ms age k call calls) ≡ false
        → place_at k calls ≡ Some p → place_at k (call ∷ calls) ≡ Some p
    line_stays k p (Judge ys m wall) calls off at = at
    line_stays k p (PutOnLine j) calls off at = by (oldest_for j (after calls).state) refl
      where
        by : (o : Option Waiting) → oldest_for j (after calls).state ≡ o
            → place_on_line sizes stations ms age k (after_sending o j (after calls)).history
            ≡ Some p
        by None none = at
        by (Some w) some = on (k == j) refl
          where
            on : (b : Bool) → (k == j) ≡ b
                → (if b then Some (sent_count sizes stations ms age k (before calls))
                else place_at k calls) ≡ Some p
            on true is =
                no_truth (sym (ap (λ (o : Option Waiting). (k == j) && not (is_none (option_map
                (λ (w : Waiting). w.octets) o))) some ∙ ap (λ (b : Bool). b && true) is) ∙ off)
            on false is = at
    line_stays k p (Accept j) calls off at =
        ap (λ (b : Bool). if b then None else place_at k calls) off ∙ at
    line_stays k p (Busy j) calls off at =
        ap (λ (b : Bool). if b then None else place_at k calls) off ∙ at
    line_stays k p (Lose j) calls off at =
        ap (λ (b : Bool). if b then None else place_at k calls) off ∙ at
    line_stays k p (Mirror v m) calls off at = at
    line_stays k p (Own octets) calls off at = at
    line_stays k p SendOwn calls off at = by (first_answer (after calls).state.answers)
      where
        by : (o : Option (List ℕ))
            → place_on_line sizes stations ms age k (after_answer o (after calls)).history
            ≡ Some p
        by None = at
        by (Some octets) = at
    line_stays k p Cut calls off at = no_truth off
    line_stays k p (Due m) calls off at = at

    -- ---- it is accepted

    abbrev is_taken : ℕ → ℕ → List Call → Bool
    is_taken k p calls = is_accepted_at sizes stations ms age k p (before calls)

    taken : (k p : ℕ) (calls : List Call) → place_at k calls ≡ Some p
        → is_taken k p (Accept k ∷ calls) ≡ true
    taken k p calls there =
        ap (λ (o : Option ℕ). (k == k && is_place p o) || is_taken k p calls) there
        ∙ (ap (λ (b : Bool). (b && p == p) || is_taken k p calls) (eq-eqb k k refl)
        ∙ ap (λ (b : Bool). b || is_taken k p calls) (eq-eqb p p refl))

    taken_stays : (k p : ℕ) (call : Call) (calls : List Call) → ends call calls ≡ false
        → is_taken k p calls ≡ true → is_taken k p (call ∷ calls) ≡ true
    taken_stays k p (Judge ys m wall) calls off at = at
    taken_stays k p (PutOnLine j) calls off at = by (oldest_for j (after calls).state)
      where
        by : (o : Option Waiting)
            → is_accepted_at sizes stations ms age k p (after_sending o j (after calls)).history
            ≡ true
        by None = at
        by (Some w) = at
    taken_stays k p (Accept j) calls off at =
        ap (λ (b : Bool). (k == j && is_place p (place_at k calls)) || b) at
        ∙ or_true (k == j && is_place p (place_at k calls))
      where
        or_true : (b : Bool) → (b || true) ≡ true
        or_true true = refl
        or_true false = refl
    taken_stays k p (Busy j) calls off at = at
    taken_stays k p (Lose j) calls off at = at
    taken_stays k p (Mirror v m) calls off at = at
    taken_stays k p (Own octets) calls off at = at
    taken_stays k p SendOwn calls off at = by (first_answer (after calls).state.answers)
      where
        by : (o : Option (List ℕ))
            → is_accepted_at sizes stations ms age k p (after_answer o (after calls)).history
            ≡ true
        by None = at
        by (Some octets) = at
    taken_stays k p Cut calls off at = no_truth off
    taken_stays k p (Due m) calls off at = at

    -- ---- it is confirmed

    abbrev confirmed : Select → List Call → Option ℕ
    confirmed z calls = confirmed_at sizes stations ms age z (before calls)

    confirmed_stays : (z : Select) (con : ℕ) (call : Call) (calls : List Call)
        → (ends call calls || confirms_in_time stations sizes ms age z.octets z.came call) ≡ false
        → confirmed z calls ≡ Some con → confirmed z (call ∷ calls) ≡ Some con
    confirmed_stays z con (Judge ys m wall) calls off at = at
    confirmed_stays z con (PutOnLine j) calls off at = by (oldest_for j (after calls).state)
      where
        by : (o : Option Waiting)
            → confirmed_at sizes stations ms age z (after_sending o j (after calls)).history
            ≡ Some con
        by None = at
        by (Some w) = at
    confirmed_stays z con (Accept j) calls off at = at
    confirmed_stays z con (Busy j) calls off at = at
    confirmed_stays z con (Lose j) calls off at = at
    confirmed_stays z con (Mirror v m) calls off at =
        ap (λ (b : Bool). if b && is_taken (station_of stations z.octets) z.place calls
        then Some m else confirmed z calls)
        (second_off (ends (Mirror v m) calls)
        (confirms_command z.octets v && nat_lt (m - z.came) ms) off) ∙ at
    confirmed_stays z con (Own octets) calls off at = at
    confirmed_stays z con SendOwn calls off at = by (first_answer (after calls).state.answers)
      where
        by : (o : Option (List ℕ))
            → confirmed_at sizes stations ms age z (after_answer o (after calls)).history
            ≡ Some con
        by None = at
        by (Some octets) = at
    confirmed_stays z con Cut calls off at = no_truth off
    confirmed_stays z con (Due m) calls off at = at

  pub is_selected : (calls : List Call) (xs : List ℕ) (now : ℕ)
      → must_be_selected stations xs ≡ true
      → IsExchanged stations sizes ms age calls xs now
      → IsSelected sizes stations ms age xs now (before calls)
  is_selected calls xs now asks e = record {
    select = z;
    stands = kept_by (ends xs) (λ cs. stood xs cs ≡ Some z) (stays xs z) base calls whole
        (begun xs e.earlier e.select e.came e.wall a e.forwarded
        (faultless stations sizes ms age e.earlier e.select e.came e.wall a e.forwarded
        (run_holds sizes stations ms age base).keeps.rightly) e.is_its.target asked e.selecting);
    received = e.is_its.received;
    element = e.is_its.element;
    test = e.is_its.test;
    moment = e.con;
    confirmed = kept_by renews (λ cs. confirmed xs z cs ≡ Some e.con)
        (confirmed_stays xs z e.con) (Mirror e.answer e.con ∷ e.accepted) calls e.lasts was;
    in_time = e.in_time;
  }
    where
      k : ℕ
      k = station_of stations e.select

      p : ℕ
      p = length (forwarded_to sizes stations ms age k (before e.earlier))

      z : Select
      z = record { octets = e.select; came = e.came; place = p }

      a : Option (List ℕ)
      a = (judged e.select e.came e.wall (after e.earlier).state).0

      base : List Call
      base = Judge e.select e.came e.wall ∷ e.earlier

      asked : must_be_selected stations e.select ≡ true
      asked = sym (asks_alike stations xs e.select
          (are_one xs e.select e.is_its.target).ca) ∙ asks

      leaves : Call → List Call → Bool
      leaves call calls = ends xs call calls || clears_line stations sizes ms age k call calls

      renews : Call → List Call → Bool
      renews call calls =
          ends xs call calls || confirms_in_time stations sizes ms age e.select e.came call

      to_line : GoOn (ends xs) base e.on_line
      to_line = join (ends xs) base e.waiting e.on_line (PutOnLine k) e.waits refl
          (fewer (ends xs) (clears_line stations sizes ms age k) (PutOnLine k ∷ e.waiting) e.on_line
          e.stands)

      to_acceptance : GoOn (ends xs) base e.accepted
      to_acceptance = join (ends xs) base e.on_line e.accepted (Accept k) to_line refl e.awaits

      whole : GoOn (ends xs) base calls
      whole = join (ends xs) base e.accepted calls (Mirror e.answer e.con) to_acceptance
          (not_refused xs e.select e.answer e.confirms)
          (fewer (ends xs) (λ call before.
          confirms_in_time stations sizes ms age e.select e.came call)
          (Mirror e.answer e.con ∷ e.accepted) calls e.lasts)

      long : suc p ≤ count_to xs k e.waiting
      long = kept_by (ends xs) (λ cs. suc p ≤ count_to xs k cs) (grows xs k (suc p)) base e.waiting
          e.waits (added xs e.select e.came e.wall e.earlier a e.forwarded asked)

      there : place_at xs k e.on_line ≡ Some p
      there = kept_by leaves (λ cs. place_at xs k cs ≡ Some p) (line_stays xs k p)
          (PutOnLine k ∷ e.waiting) e.on_line e.stands (goes_out xs k p e.waiting e.in_turn long)

      held : is_taken xs k p e.accepted ≡ true
      held = kept_by (ends xs) (λ cs. is_taken xs k p cs ≡ true) (taken_stays xs k p)
          (Accept k ∷ e.on_line) e.accepted e.awaits (taken xs k p e.on_line there)

      was : confirmed xs z (Mirror e.answer e.con ∷ e.accepted) ≡ Some e.con
      was =
          ap (λ (b : Bool). if (b && nat_lt (e.con - e.came) ms) && is_taken xs k p e.accepted
          then Some e.con else confirmed xs z e.accepted) e.confirms
          ∙ (ap (λ (b : Bool). if b && is_taken xs k p e.accepted
          then Some e.con else confirmed xs z e.accepted)
          (lt-ltb (e.con - e.came) ms e.confirmed_in_time)
          ∙ ap (λ (b : Bool). if b then Some e.con else confirmed xs z e.accepted) held)
