-- A select that was confirmed lets its execute through, whatever else became of other objects.
use Rattle.std.proofs.Common.{◌≡◌, ℕ, ◌+◌, ◌-◌, ◌<◌, ◌≤◌, ◌%◌, inr, ◌&&◌, ◌||◌, Bool, true}
use Rattle.std.proofs.Common.{false, not, List, [], ◌∷◌, ◌++◌, length, refl, sym, subst, ap, ◌∙◌}
use Rattle.std.proofs.Common.{rules}
use Rattle.std.specs.Prelude.{◌==◌, Option, Some, None, if◌then◌else◌, is_none, nat_lt}
use Rattle.std.specs.Prelude.{slice_index}
use Rattle.std.specs.List.{list_any, AllByRecursion}
use Rattle.std.proofs.lemmas.Bool.{and_parts, and_from, eqb-true, eq-eqb, lt-ltb, ne_eqb}
use Rattle.elements.specs.Types.{row}
use Rattle.asdu.specs.Asdu.{AsduValue, Info}
use Rattle.command.specs.Standard.{are_equal, cause_of_fault, common_address, confirms_command}
use Rattle.command.specs.Standard.{element_part, executes}
use Rattle.command.specs.Standard.{have_one_target, is_deactivating, is_object_of}
use Rattle.command.specs.Standard.{is_only_object_of, must_be_selected, object_address}
use Rattle.command.specs.Standard.{plain_type, refuses_command, selects, station_of}
use Rattle.command.specs.History.{History, Judged, Sent, Accepted, Refused, GivenUp}
use Rattle.command.specs.History.{Mirrored, Offered, Answered, Ended, Select, forwarded_to}
use Rattle.command.specs.History.{sent_count, is_place, IsSelected}
use Rattle.command.specs.History.{standing, place_on_line, is_accepted_at}
use Rattle.command.specs.History.{confirmed_at}
use Rattle.command.specs.Passing.{FindsPlaces}
use Rattle.gateway.specs.Passing.{PassesCommands}
use Rattle.gateway.specs.Reports.{Setup}
use Rattle.delivery.specs.Refusing.{StaysOnLine}
use Rattle.delivery.specs.Selecting.{IsApart, IsThrough}
use Rattle.delivery.proofs.Forwarded.{forwarded}
use Rattle.delivery.proofs.AnyPlace.{Answers, answers_then, no_truth}
use Rattle.delivery.proofs.OwnSelects.{asks_alike, of_object}

-- ---- one object

record AreOne (xs ys : List ℕ) : Type 0 where
  kind : plain_type (slice_index xs 0) ≡ plain_type (slice_index ys 0)
  ca : common_address xs ≡ common_address ys
  object : object_address xs ≡ object_address ys

are_one : (xs ys : List ℕ) → have_one_target xs ys ≡ true → AreOne xs ys
are_one xs ys h =
    let p : _ = and_parts
    ((plain_type (slice_index xs 0) == plain_type (slice_index ys 0))
    && (common_address xs == common_address ys)) (object_address xs == object_address ys) h in
    let q : _ = and_parts (plain_type (slice_index xs 0) == plain_type (slice_index ys 0))
    (common_address xs == common_address ys) p.0 in
    record {
      kind = eqb-true (plain_type (slice_index xs 0)) (plain_type (slice_index ys 0)) q.0;
      ca = eqb-true (common_address xs) (common_address ys) q.1;
      object = eqb-true (object_address xs) (object_address ys) p.1;
    }

its_object : (xs ys : List ℕ) → have_one_target xs ys ≡ true → (v : AsduValue) (i : Info)
    → is_object_of ys v i ≡ true → is_object_of xs v i ≡ true
its_object xs ys h v i e =
    let one = are_one xs ys h in
    ap (λ (n : ℕ). n == (row v.kind).code && common_address xs == v.ca
    && object_address xs == i.address) one.kind
    ∙ ap (λ (n : ℕ). plain_type (slice_index ys 0) == (row v.kind).code && n == v.ca
    && object_address xs == i.address) one.ca
    ∙ ap (λ (n : ℕ). plain_type (slice_index ys 0) == (row v.kind).code
    && common_address ys == v.ca && n == i.address) one.object ∙ e

-- what confirms the select bears its object
bears : (xs ys : List ℕ) → have_one_target xs ys ≡ true → (v : AsduValue) (is : List Info)
    → is_only_object_of ys v is ≡ true → list_any (is_object_of xs v) is ≡ true
bears xs ys h v [] e = no_truth (sym e)
bears xs ys h v (i ∷ []) e =
    ap (λ (b : Bool). b || false)
    (its_object xs ys h v i (and_parts (is_object_of ys v i)
    (are_equal (element_part ys) i.element) e).0)
bears xs ys h v (i ∷ j ∷ is) e = no_truth (sym e)

unconfirmed : (xs ys : List ℕ) → have_one_target xs ys ≡ true → (v : AsduValue)
    → list_any (is_object_of xs v) v.infos ≡ false → (b : Bool) → confirms_command ys v ≡ b
    → b ≡ false
unconfirmed xs ys h v none false e = refl
unconfirmed xs ys h v none true e =
    no_truth (sym (bears xs ys h v v.infos (and_parts (v.cause % 128 == 7)
    (is_only_object_of ys v v.infos) e).1) ∙ none)

not_refused : (xs ys : List ℕ) (v : AsduValue) → confirms_command ys v ≡ true
    → refuses_command xs v ≡ false
not_refused xs ys v con =
    let seven : v.cause % 128 ≡ 7 =
    eqb-true (v.cause % 128) 7 (and_parts (v.cause % 128 == 7) (is_only_object_of ys v v.infos)
    con).0 in
    ap (λ (n : ℕ). n == 64 + 7 && list_any (is_object_of xs v) v.infos) seven

module _ (p : Setup) where
  abbrev sent_at : ℕ → History → ℕ
  sent_at k h = sent_count p.sizes p.stations p.select_ms p.max_age_ms k h

  abbrev place_at : ℕ → History → Option ℕ
  place_at k h = place_on_line p.sizes p.stations p.select_ms p.max_age_ms k h

  abbrev is_taken : ℕ → ℕ → History → Bool
  is_taken k place h = is_accepted_at p.sizes p.stations p.select_ms p.max_age_ms k place h

  -- ---- the line

  left : (k j : ℕ) (o : Option ℕ) → (k ≡ j → ⊥) → (if k == j then None else o) ≡ o
  left k j o apart = ap (λ (b : Bool). if b then None else o) (ne_eqb k j apart)

  there : (k : ℕ) (octets : List ℕ) (rest stood : History) → StaysOnLine k stood
      → place_at k (stood ++ Sent k octets ∷ rest) ≡ Some (sent_at k rest)
  there k octets rest [] s =
      ap (λ (b : Bool). if b then Some (sent_at k rest) else place_at k rest) (eq-eqb k k refl)
  there k octets rest (Judged now wall xs a ∷ stood) s = there k octets rest stood s
  there k octets rest (Sent j other ∷ stood) s =
      ap (λ (b : Bool). if b then Some (sent_at k (stood ++ Sent k octets ∷ rest))
      else place_at k (stood ++ Sent k octets ∷ rest)) (ne_eqb k j s.0)
      ∙ there k octets rest stood s.1
  there k octets rest (Accepted j ∷ stood) s =
      left k j (place_at k (stood ++ Sent k octets ∷ rest)) s.0 ∙ there k octets rest stood s.1
  there k octets rest (Refused j a ∷ stood) s =
      left k j (place_at k (stood ++ Sent k octets ∷ rest)) s.0 ∙ there k octets rest stood s.1
  there k octets rest (GivenUp j was ∷ stood) s =
      left k j (place_at k (stood ++ Sent k octets ∷ rest)) s.0 ∙ there k octets rest stood s.1
  there k octets rest (Mirrored now v ∷ stood) s = there k octets rest stood s
  there k octets rest (Offered other kept ∷ stood) s = there k octets rest stood s
  there k octets rest (Answered other ∷ stood) s = there k octets rest stood s
  there k octets rest (Ended ∷ stood) s = absurd s

  place_of : (n : ℕ) (o : Option ℕ) → o ≡ Some n → is_place n o ≡ true
  place_of n None e = absurd (search (rules, e))
  place_of n (Some m) e = eq-eqb m n (search (rules, e))

  -- the station accepts it there
  accepts : (k n : ℕ) (h : History) → place_at k h ≡ Some n → is_taken k n (Accepted k ∷ h) ≡ true
  accepts k n h e =
      ap (λ (b : Bool). b || is_taken k n h)
      (and_from (k == k) (is_place n (place_at k h)) (eq-eqb k k refl)
      (place_of n (place_at k h) e))

  module _ (xs : List ℕ) where
    -- and it stays accepted
    taken : (k n : ℕ) (l h : History) → AllByRecursion (IsApart xs) l → is_taken k n h ≡ true
        → is_taken k n (l ++ h) ≡ true
    taken k n [] h a e = e
    taken k n (Judged now wall ys b ∷ l) h a e = taken k n l h a.1 e
    taken k n (Sent j octets ∷ l) h a e = taken k n l h a.1 e
    taken k n (Accepted j ∷ l) h a e =
        by (k == j && is_place n (place_at k (l ++ h))) (taken k n l h a.1 e)
      where
        by : (b : Bool) → is_taken k n (l ++ h) ≡ true → (b || is_taken k n (l ++ h)) ≡ true
        by true f = refl
        by false f = f
    taken k n (Refused j b ∷ l) h a e = taken k n l h a.1 e
    taken k n (GivenUp j was ∷ l) h a e = taken k n l h a.1 e
    taken k n (Mirrored now v ∷ l) h a e = taken k n l h a.1 e
    taken k n (Offered octets kept ∷ l) h a e = taken k n l h a.1 e
    taken k n (Answered octets ∷ l) h a e = taken k n l h a.1 e
    taken k n (Ended ∷ l) h a e = absurd a.0

    abbrev stands : History → Option Select
    stands h = standing p.sizes p.stations p.select_ms p.max_age_ms xs h

    -- ---- which select stands

    stays : (l h : History) → AllByRecursion (IsApart xs) l → stands (l ++ h) ≡ stands h
    stays [] h a = refl
    stays (Judged now wall ys b ∷ l) h a =
        by (is_none (cause_of_fault p.sizes p.stations p.max_age_ms wall ys))
        (have_one_target xs ys) a.0
        (is_none b && (must_be_selected p.stations ys && selects ys))
        (is_deactivating ys || executes ys) ∙ stays l h a.1
      where
        newer : Select
        newer = record {
          octets = ys;
          came = now;
          place = length (forwarded_to p.sizes p.stations p.select_ms p.max_age_ms
              (station_of p.stations ys) (l ++ h));
        }

        by : (c t : Bool) → t ≡ false → (m d : Bool)
            → (if not (c && t) then stands (l ++ h)
            else (if m then Some newer else (if d then None else stands (l ++ h))))
            ≡ stands (l ++ h)
        by false t e m d = refl
        by true false e m d = refl
        by true true e m d = no_truth e
    stays (Sent j octets ∷ l) h a = stays l h a.1
    stays (Accepted j ∷ l) h a = stays l h a.1
    stays (Refused j b ∷ l) h a = stays l h a.1
    stays (GivenUp j was ∷ l) h a = stays l h a.1
    stays (Mirrored now v ∷ l) h a =
        by (v.cause % 128 == 64 + 7) (list_any (is_object_of xs v) v.infos) a.0 ∙ stays l h a.1
      where
        by : (c t : Bool) → t ≡ false
            → (if c && t then None else stands (l ++ h)) ≡ stands (l ++ h)
        by false t e = refl
        by true false e = refl
        by true true e = no_truth e
    stays (Offered octets kept ∷ l) h a = stays l h a.1
    stays (Answered octets ∷ l) h a = stays l h a.1
    stays (Ended ∷ l) h a = absurd a.0

    begins : (earlier : History) (came : ℕ) (wall : Option ℕ) (ys : List ℕ)
        → cause_of_fault p.sizes p.stations p.max_age_ms wall ys ≡ None
        → have_one_target xs ys ≡ true → must_be_selected p.stations ys ≡ true
        → selects ys ≡ true → stands (Judged came wall ys None ∷ earlier) ≡ Some (record {
          octets = ys;
          came = came;
          place = length (forwarded_to p.sizes p.stations p.select_ms p.max_age_ms
              (station_of p.stations ys) earlier);
        })
    begins earlier came wall ys faultless one asks selecting =
        ap (λ (t : Bool). if not t then stands earlier
        else (if must_be_selected p.stations ys && selects ys then Some newer
        else (if is_deactivating ys || executes ys then None else stands earlier)))
        (of_object p xs wall ys faultless one)
        ∙ ap (λ (t : Bool). if t then Some newer
        else (if is_deactivating ys || executes ys then None else stands earlier))
        (and_from (must_be_selected p.stations ys) (selects ys) asks selecting)
      where
        newer : Select
        newer = record {
          octets = ys;
          came = came;
          place = length (forwarded_to p.sizes p.stations p.select_ms p.max_age_ms
              (station_of p.stations ys) earlier);
        }

    -- ---- when it was confirmed

    module _ (z : Select) (one : have_one_target xs z.octets ≡ true) where
      abbrev confirmed : History → Option ℕ
      confirmed h = confirmed_at p.sizes p.stations p.select_ms p.max_age_ms z h

      abbrev home : ℕ
      home = station_of p.stations z.octets

      same : (l h : History) → AllByRecursion (IsApart xs) l → confirmed (l ++ h) ≡ confirmed h
      same [] h a = refl
      same (Judged now wall ys b ∷ l) h a = same l h a.1
      same (Sent j octets ∷ l) h a = same l h a.1
      same (Accepted j ∷ l) h a = same l h a.1
      same (Refused j b ∷ l) h a = same l h a.1
      same (GivenUp j was ∷ l) h a = same l h a.1
      same (Mirrored now v ∷ l) h a =
          ap (λ (t : Bool). if (t && nat_lt (now - z.came) p.select_ms)
          && is_taken home z.place (l ++ h) then Some now else confirmed (l ++ h))
          (unconfirmed xs z.octets one v a.0 (confirms_command z.octets v) refl)
          ∙ same l h a.1
      same (Offered octets kept ∷ l) h a = same l h a.1
      same (Answered octets ∷ l) h a = same l h a.1
      same (Ended ∷ l) h a = absurd a.0

      at_once : (now : ℕ) (v : AsduValue) (h : History) → confirms_command z.octets v ≡ true
          → now - z.came < p.select_ms → is_taken home z.place h ≡ true
          → confirmed (Mirrored now v ∷ h) ≡ Some now
      at_once now v h confirms quick accepted =
          ap (λ (t : Bool). if t then Some now else confirmed h)
          (and_from (confirms_command z.octets v && nat_lt (now - z.came) p.select_ms)
          (is_taken home z.place h)
          (and_from (confirms_command z.octets v) (nat_lt (now - z.came) p.select_ms) confirms
          (lt-ltb (now - z.came) p.select_ms quick)) accepted)

  -- ---- all of it

  pub goes_through : (xs ys : List ℕ) (came con now : ℕ) (clock : Option ℕ) (answer : AsduValue)
      (octets : List ℕ) (later between stood waited earlier : History)
      → cause_of_fault p.sizes p.stations p.max_age_ms clock ys ≡ None
      → must_be_selected p.stations xs ≡ true
      → IsThrough p ys xs came con now answer later between stood waited
      (Judged came clock ys None ∷ earlier) earlier
      → IsSelected p.sizes p.stations p.select_ms p.max_age_ms xs now
      (later ++ Mirrored con answer ∷ (between ++ Accepted (station_of p.stations ys)
      ∷ (stood ++ Sent (station_of p.stations ys) octets
      ∷ (waited ++ Judged came clock ys None ∷ earlier))))
  goes_through xs ys came con now clock answer octets later between stood waited earlier faultless
      asks t = record {
        select = z;
        stands =
            stays xs later (Mirrored con answer ∷ confirmed_then) t.apart_later
            ∙ ap (λ (b : Bool). if b then None else stands xs confirmed_then)
            (not_refused xs ys answer t.confirms)
            ∙ stays xs between (Accepted k ∷ accepted_then) t.apart_between
            ∙ stays xs stood (Sent k octets ∷ sent_then) t.apart_stood
            ∙ stays xs waited (Judged came clock ys None ∷ earlier) t.apart_waited
            ∙ begins xs earlier came clock ys faultless t.target
            (asks_alike p.stations xs ys t.target asks) t.selecting;
        received = t.received;
        element = t.element;
        test = t.test;
        moment = con;
        confirmed =
            same xs z t.target later (Mirrored con answer ∷ confirmed_then) t.apart_later
            ∙ at_once xs z t.target con answer confirmed_then t.confirms t.in_time
            (taken xs k z.place between (Accepted k ∷ accepted_then) t.apart_between
            (accepts k z.place accepted_then
            (there k octets sent_then stood t.on_line ∙ ap (λ (n : ℕ). Some n) t.in_turn)));
        in_time = t.lasts;
      }
    where
      k : ℕ
      k = station_of p.stations ys

      z : Select
      z = record {
        octets = ys;
        came = came;
        place = length (forwarded_to p.sizes p.stations p.select_ms p.max_age_ms k earlier);
      }

      sent_then : History
      sent_then = waited ++ Judged came clock ys None ∷ earlier

      accepted_then : History
      accepted_then = stood ++ Sent k octets ∷ sent_then

      confirmed_then : History
      confirmed_then = between ++ Accepted k ∷ accepted_then

  -- ---- the law

  behind : (now : ℕ) (wall : Option ℕ) (xs : List ℕ) (answer : Option (List ℕ)) (rest : History)
      → Answers p (Judged now wall xs answer ∷ rest) → Answers p rest
  behind now wall xs None rest h = h.1
  behind now wall xs (Some a) rest h = h.1

  pub let_through : (history : History) → PassesCommands p history → Answers p history
      → (newer later between stood waited earlier : History) (now came con : ℕ)
      (wall clock : Option ℕ) (xs ys octets : List ℕ) (result : Option (List ℕ))
      (answer : AsduValue)
      → history ≡ newer ++ Judged now wall xs result
      ∷ (later ++ Mirrored con answer ∷ (between ++ Accepted (station_of p.stations ys)
      ∷ (stood ++ Sent (station_of p.stations ys) octets
      ∷ (waited ++ Judged came clock ys None ∷ earlier))))
      → IsThrough p ys xs came con now answer later between stood waited
      (Judged came clock ys None ∷ earlier) earlier
      → executes xs ≡ true → cause_of_fault p.sizes p.stations p.max_age_ms wall xs ≡ None
      → must_be_selected p.stations xs ≡ true
      → FindsPlaces p.stations xs
      (later ++ Mirrored con answer ∷ (between ++ Accepted (station_of p.stations ys)
      ∷ (stood ++ Sent (station_of p.stations ys) octets
      ∷ (waited ++ Judged came clock ys None ∷ earlier)))) → result ≡ None
  let_through history passes answers newer later between stood waited earlier now came con wall
      clock xs ys octets result answer is t executing faultless asks places =
      forwarded p history newer confirmed_first now wall xs result passes is
      (record {
        faultless = faultless;
        places = places;
        free = inr (
          executing,
          goes_through xs ys came con now clock answer octets later between stood waited earlier
              unmarked asks t,
        );
      })
    where
      k : ℕ
      k = station_of p.stations ys

      sent_then : History
      sent_then = waited ++ Judged came clock ys None ∷ earlier

      accepted_then : History
      accepted_then = stood ++ Sent k octets ∷ sent_then

      confirmed_then : History
      confirmed_then = between ++ Accepted k ∷ accepted_then

      confirmed_first : History
      confirmed_first = later ++ Mirrored con answer ∷ confirmed_then

      unmarked : cause_of_fault p.sizes p.stations p.max_age_ms clock ys ≡ None
      unmarked =
          (answers_then p waited (Judged came clock ys None ∷ earlier)
          (answers_then p stood (Sent k octets ∷ sent_then)
          (answers_then p between (Accepted k ∷ accepted_then)
          (answers_then p later (Mirrored con answer ∷ confirmed_then)
          (behind now wall xs result confirmed_first
          (answers_then p newer (Judged now wall xs result ∷ confirmed_first)
          (subst (Answers p) is answers))))))).0

-- ---- sixteen selections
