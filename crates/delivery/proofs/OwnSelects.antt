-- Each execute to a station that asks for selects has a select of its own.
use Rattle.std.proofs.Common.{◌≡◌, ℕ, ◌+◌, ◌-◌, ◌<◌, ◌≤◌, ◌%◌, inl, inr, ◌⊎◌, ◌&&◌, ◌||◌}
use Rattle.std.proofs.Common.{Bool, true, false, not, List, [], ◌∷◌, ◌++◌, length, refl, sym}
use Rattle.std.proofs.Common.{subst, ap, ◌∙◌, arith, rules}
use Rattle.std.specs.Prelude.{◌==◌, Option, Some, None, if◌then◌else◌, is_none, nat_lt, nat_le}
use Rattle.std.specs.Prelude.{slice_index}
use Rattle.std.specs.List.{list_any}
use Rattle.std.proofs.lemmas.Bool.{and_parts, and_from, eqb-true, eq-eqb, ltb-true, leb-true}
use Rattle.std.proofs.lemmas.List.{append-nil, length-append}
use Rattle.asdu.specs.Asdu.{AsduValue}
use Rattle.command.specs.declared.station.StationInfo.{StationInfo}
use Rattle.command.specs.Standard.{cause_of_fault, common_address, confirms_command, executes}
use Rattle.command.specs.Standard.{have_one_element, have_one_target, have_one_test_bit}
use Rattle.command.specs.Standard.{have_one_type, is_activation, is_deactivating, is_object_of}
use Rattle.command.specs.Standard.{last_octet, must_be_selected, object_address, operates}
use Rattle.command.specs.Standard.{plain_type, refuses_command, selects, station_of}
use Rattle.command.specs.History.{History, HistoryEntry, Judged, Sent, Accepted, Refused, GivenUp}
use Rattle.command.specs.History.{Mirrored, Offered, Answered, Ended, Select, is_for}
use Rattle.command.specs.History.{is_place}
use Rattle.command.specs.History.{IsSelected, is_of_target, standing}
use Rattle.command.specs.History.{confirmed_at}
use Rattle.gateway.specs.Reports.{Setup}
use Rattle.delivery.specs.Selecting.{EndsSelection, SelectsNothing, IsSelectedBy}
use Rattle.delivery.proofs.AnyPlace.{Forwards, Answers, Selected, selected_then, forwards_then}
use Rattle.delivery.proofs.AnyPlace.{answers_then, no_entry, no_truth}
use Rattle.delivery.proofs.WentOut.{sent_at, to_station, place_at, is_taken, below_left, place_is}
use Rattle.delivery.proofs.WentOut.{not_taken, not_there}

-- ---- small facts

none_is : {A : Type 0} (o : Option A) → o ≡ None → is_none o ≡ true
none_is None e = refl
none_is (Some x) e = absurd (search (rules, e))

over : (n : ℕ) → nat_lt n 128 ≡ true → (b : Bool) → nat_le 128 n ≡ b → b ≡ false
over n below false e = refl
over n below true e = absurd (
    let less : n < 128 = ltb-true n 128 below in
    let more : 128 ≤ n = leb-true 128 n e in
    omega (arith, less, more))

-- what executes selects nothing, and neither does what takes back
no_select : (xs : List ℕ) → executes xs ≡ true → selects xs ≡ false
no_select xs h = by (operates xs) (is_activation xs) h
  where
    by : (o a : Bool) → (o && a && nat_lt (last_octet xs) 128) ≡ true
        → (o && a && nat_le 128 (last_octet xs)) ≡ false
    by false a f = refl
    by true false f = refl
    by true true f = over (last_octet xs) f (nat_le 128 (last_octet xs)) refl

not_both : (n : ℕ) → (n == 8) ≡ true → (n == 6) ≡ false
not_both n e = ap (λ (m : ℕ). m == 6) (eqb-true n 8 e)

takes_nothing : (xs : List ℕ) → is_deactivating xs ≡ true → selects xs ≡ false
takes_nothing xs h = by (operates xs) (is_activation xs) (not_both (slice_index xs 2 % 64) h)
  where
    by : (o a : Bool) → a ≡ false → (o && a && nat_le 128 (last_octet xs)) ≡ false
    by false a f = refl
    by true false f = refl
    by true true f = no_truth f

acts : (xs : List ℕ) → (executes xs ≡ true) ⊎ (is_deactivating xs ≡ true)
    → (is_deactivating xs || executes xs) ≡ true
acts xs (inl e) = by (is_deactivating xs)
  where
    by : (b : Bool) → (b || executes xs) ≡ true
    by true = refl
    by false = e
acts xs (inr e) = ap (λ (b : Bool). b || executes xs) e

selects_then : (xs : List ℕ) → (executes xs ≡ true) ⊎ (is_deactivating xs ≡ true)
    → selects xs ≡ false
selects_then xs (inl e) = no_select xs e
selects_then xs (inr e) = takes_nothing xs e

pub asks_alike : (stations : List StationInfo) (xs ys : List ℕ) → have_one_target xs ys ≡ true
    → must_be_selected stations xs ≡ true → must_be_selected stations ys ≡ true
asks_alike stations xs ys h asks =
    let p : _ = and_parts
    ((plain_type (slice_index xs 0) == plain_type (slice_index ys 0))
    && (common_address xs == common_address ys)) (object_address xs == object_address ys) h in
    let q : _ = and_parts (plain_type (slice_index xs 0) == plain_type (slice_index ys 0))
    (common_address xs == common_address ys) p.0 in
    subst (λ (ca : ℕ). list_any (λ (st : StationInfo). ca == st.ca && st.select) stations ≡ true)
    (eqb-true (common_address xs) (common_address ys) q.1) asks

module _ (p : Setup) where
  -- a select that came behind these
  abbrev selected_as : ℕ → List ℕ → History → Select
  selected_as came ys earlier = record {
    octets = ys;
    came = came;
    place = length (to_station p (station_of p.stations ys) earlier);
  }

  -- ---- which select stands

  module _ (xs : List ℕ) where
    abbrev stood : History → Option Select
    stood h = standing p.sizes p.stations p.select_ms p.max_age_ms xs h

    abbrev is_its : Option ℕ → List ℕ → Bool
    is_its wall ys = is_of_target p.sizes p.stations p.select_ms p.max_age_ms xs wall ys

    -- none that is forwarded among these
    still : (since rest : History) (z : Select) → SelectsNothing xs since
        → stood (since ++ rest) ≡ Some z → stood rest ≡ Some z
    still [] rest z none e = e
    still (Judged now wall ys None ∷ since) rest z none e =
        by (still since rest z none.1) (is_its wall ys) refl
        (must_be_selected p.stations ys && selects ys) refl
        (is_deactivating ys || executes ys) e
      where
        newer : Select
        newer = record {
          octets = ys;
          came = now;
          place = length (to_station p (station_of p.stations ys) (since ++ rest));
        }

        by : (stood (since ++ rest) ≡ Some z → stood rest ≡ Some z)
            → (n : Bool) → is_its wall ys ≡ n
            → (m : Bool) → (must_be_selected p.stations ys && selects ys) ≡ m → (d : Bool)
            → (if not n then stood (since ++ rest)
            else (if m then Some newer else (if d then None else stood (since ++ rest)))) ≡ Some z
            → stood rest ≡ Some z
        by on false i m s d f = on f
        by on true i true s d f = no_truth (
            sym (and_from (selects ys) (have_one_target xs ys)
            (and_parts (must_be_selected p.stations ys) (selects ys) s).1
            (and_parts (is_none (cause_of_fault p.sizes p.stations p.max_age_ms wall ys))
            (have_one_target xs ys) i).1) ∙ none.0)
        by on true i false s true f = absurd (no_entry f)
        by on true i false s false f = on f
    still (Judged now wall ys (Some a) ∷ since) rest z none e =
        by (still since rest z none) (is_its wall ys) (is_deactivating ys || executes ys) e
      where
        by : (stood (since ++ rest) ≡ Some z → stood rest ≡ Some z) → (n d : Bool)
            → (if not n then stood (since ++ rest)
            else (if d then None else stood (since ++ rest))) ≡ Some z
            → stood rest ≡ Some z
        by on false d f = on f
        by on true true f = absurd (no_entry f)
        by on true false f = on f
    still (Sent k octets ∷ since) rest z none e = still since rest z none e
    still (Accepted k ∷ since) rest z none e = still since rest z none e
    still (Refused k answer ∷ since) rest z none e = still since rest z none e
    still (GivenUp k was ∷ since) rest z none e = still since rest z none e
    still (Mirrored now v ∷ since) rest z none e =
        by (still since rest z none) (refuses_command xs v) e
      where
        by : (stood (since ++ rest) ≡ Some z → stood rest ≡ Some z) → (b : Bool)
            → (if b then None else stood (since ++ rest)) ≡ Some z → stood rest ≡ Some z
        by on true f = absurd (no_entry f)
        by on false f = on f
    still (Offered octets kept ∷ since) rest z none e = still since rest z none e
    still (Answered octets ∷ since) rest z none e = still since rest z none e
    still (Ended ∷ since) rest z none e = absurd (no_entry e)

    -- it is of the object, and nothing is wrong with it
    pub of_object : (wall : Option ℕ) (ys : List ℕ)
        → cause_of_fault p.sizes p.stations p.max_age_ms wall ys ≡ None
        → have_one_target xs ys ≡ true → is_its wall ys ≡ true
    of_object wall ys faultless one =
        and_from (is_none (cause_of_fault p.sizes p.stations p.max_age_ms wall ys))
        (have_one_target xs ys)
        (none_is (cause_of_fault p.sizes p.stations p.max_age_ms wall ys) faultless) one

    -- behind what ends it none stands
    over_then : (end : HistoryEntry) (earlier : History) (z : Select) → EndsSelection p xs end
        → stood (end ∷ earlier) ≡ Some z → ⊥
    over_then (Judged now wall ys answer) earlier z ends e =
        by (is_its wall ys) (of_object wall ys ends.0 ends.1)
        (is_none answer && (must_be_selected p.stations ys && selects ys))
        (selects_none (is_none answer) (must_be_selected p.stations ys) (selects ys)
        (selects_then ys ends.2))
        (is_deactivating ys || executes ys) (acts ys ends.2) e
      where
        selects_none : (a b c : Bool) → c ≡ false → (a && (b && c)) ≡ false
        selects_none false b c f = refl
        selects_none true false c f = refl
        selects_none true true c f = f

        newer : Select
        newer = record {
          octets = ys;
          came = now;
          place = length (to_station p (station_of p.stations ys) earlier);
        }

        by : (n : Bool) → n ≡ true → (m : Bool) → m ≡ false → (d : Bool) → d ≡ true
            → (if not n then stood earlier
            else (if m then Some newer else (if d then None else stood earlier))) ≡ Some z → ⊥
        by false i m s d t f = no_truth (sym i)
        by true i true s d t f = no_truth s
        by true i false s false t f = no_truth (sym t)
        by true i false s true t f = no_entry f
    over_then (Mirrored now v) earlier z ends e =
        by (refuses_command xs v) (and_from (v.cause % 128 == 64 + 7)
        (list_any (is_object_of xs v) v.infos) (eq-eqb (v.cause % 128) 71 ends.0) ends.1) e
      where
        by : (b : Bool) → b ≡ true → (if b then None else stood earlier) ≡ Some z → ⊥
        by true i f = no_entry f
        by false i f = no_truth (sym i)
    over_then Ended earlier z ends e = no_entry e
    over_then (Sent k octets) earlier z ends e = absurd ends
    over_then (Accepted k) earlier z ends e = absurd ends
    over_then (Refused k answer) earlier z ends e = absurd ends
    over_then (GivenUp k was) earlier z ends e = absurd ends
    over_then (Offered octets kept) earlier z ends e = absurd ends
    over_then (Answered octets) earlier z ends e = absurd ends

    -- the latest that was forwarded stands, if one does
    latest_is : (earlier : History) (came : ℕ) (wall : Option ℕ) (ys : List ℕ) (z : Select)
        → cause_of_fault p.sizes p.stations p.max_age_ms wall ys ≡ None
        → have_one_target xs ys ≡ true → must_be_selected p.stations ys ≡ true
        → selects ys ≡ true → stood (Judged came wall ys None ∷ earlier) ≡ Some z
        → selected_as came ys earlier ≡ z
    latest_is earlier came wall ys z faultless one asks selecting e =
        by (is_its wall ys) (of_object wall ys faultless one)
        (must_be_selected p.stations ys && selects ys)
        (and_from (must_be_selected p.stations ys) (selects ys) asks selecting)
        (is_deactivating ys || executes ys) e
      where
        newer : Select
        newer = selected_as came ys earlier

        by : (n : Bool) → n ≡ true → (m : Bool) → m ≡ true → (d : Bool)
            → (if not n then stood earlier
            else (if m then Some newer else (if d then None else stood earlier))) ≡ Some z
            → selected_as came ys earlier ≡ z
        by false i m s d f = no_truth (sym i)
        by true i false s d f = no_truth (sym s)
        by true i true s d f = search (rules, f)

  module _ (z : Select) where
    abbrev home : ℕ
    home = station_of p.stations z.octets

    abbrev confirmed : History → Option ℕ
    confirmed h = confirmed_at p.sizes p.stations p.select_ms p.max_age_ms z h

    abbrev confirms_so : ℕ → AsduValue → Bool
    confirms_so now v = confirms_command z.octets v && nat_lt (now - z.came) p.select_ms

    not_confirmed : (h : History) (m : ℕ) → Forwards p h → length (to_station p home h) ≤ z.place
        → confirmed h ≡ Some m → ⊥
    not_confirmed [] m f past e = no_entry e
    not_confirmed (Judged now wall ys None ∷ h) m f past e =
        not_confirmed h m f
        (by (is_for p.sizes p.stations p.select_ms p.max_age_ms home ys) past) e
      where
        by : (b : Bool)
            → length (if b then to_station p home h ++ ys ∷ [] else to_station p home h) ≤ z.place
            → length (to_station p home h) ≤ z.place
        by true most = (
            let more : length (to_station p home h ++ ys ∷ []) ≡ length (to_station p home h) + 1 =
            length-append (to_station p home h) (ys ∷ []) in
            omega (arith, most, more))
        by false most = most
    not_confirmed (Judged now wall ys (Some a) ∷ h) m f past e = not_confirmed h m f past e
    not_confirmed (Sent j octets ∷ h) m f past e = not_confirmed h m f.1 past e
    not_confirmed (Accepted j ∷ h) m f past e = not_confirmed h m f past e
    not_confirmed (Refused j a ∷ h) m f past e = not_confirmed h m f past e
    not_confirmed (GivenUp j b ∷ h) m f past e = not_confirmed h m f past e
    not_confirmed (Mirrored now v ∷ h) m f past e =
        by (confirms_so now v && is_taken p home z.place h) refl (not_confirmed h m f past) e
      where
        by : (b : Bool) → (confirms_so now v && is_taken p home z.place h) ≡ b
            → (confirmed h ≡ Some m → ⊥) → (if b then Some now else confirmed h) ≡ Some m → ⊥
        by true is rest g = not_taken p home z.place h f past
            (and_parts (confirms_so now v) (is_taken p home z.place h) is).1
        by false is rest g = rest g
    not_confirmed (Offered octets b ∷ h) m f past e = not_confirmed h m f past e
    not_confirmed (Answered octets ∷ h) m f past e = not_confirmed h m f past e
    not_confirmed (Ended ∷ h) m f past e = no_entry e

    -- ---- where it went out, was accepted, and was confirmed: behind its coming

    module _ (behind : History) (unconfirmed : (m : ℕ) → confirmed behind ≡ Some m → ⊥)
        (untaken : is_taken p home z.place behind ≡ true → ⊥)
        (unsent : place_at p home behind ≡ Some z.place → ⊥) where
      record Gone (s : History) : Type 0 where
        stood_there : History
        octets : List ℕ
        waited : History
        is : s ≡ stood_there ++ Sent home octets ∷ waited
        turn : sent_at p home (waited ++ behind) ≡ z.place

      gone_on : (entry : HistoryEntry) (s : History) → Gone s → Gone (entry ∷ s)
      gone_on entry s g = record {
        stood_there = entry ∷ g.stood_there;
        octets = g.octets;
        waited = g.waited;
        is = ap (λ (l : History). entry ∷ l) g.is;
        turn = g.turn;
      }

      gone : (s : History) → place_at p home (s ++ behind) ≡ Some z.place → Gone s
      gone [] e = absurd (unsent e)
      gone (Judged now wall ys a ∷ s) e = gone_on (Judged now wall ys a) s (gone s e)
      gone (Sent j octets ∷ s) e = by (home == j) refl (gone s) e
        where
          by : (b : Bool) → (home == j) ≡ b
              → (place_at p home (s ++ behind) ≡ Some z.place → Gone s)
              → (if b then Some (sent_at p home (s ++ behind)) else place_at p home (s ++ behind))
              ≡ Some z.place → Gone (Sent j octets ∷ s)
          by true at on f = record {
            stood_there = [];
            octets = octets;
            waited = s;
            is = ap (λ (i : ℕ). Sent i octets ∷ s) (sym (eqb-true home j at));
            turn = search (rules, f);
          }
          by false at on f = gone_on (Sent j octets) s (on f)
      gone (Accepted j ∷ s) e = gone_on (Accepted j) s
          (gone s (below_left (home == j) (place_at p home (s ++ behind)) z.place e))
      gone (Refused j a ∷ s) e = gone_on (Refused j a) s
          (gone s (below_left (home == j) (place_at p home (s ++ behind)) z.place e))
      gone (GivenUp j b ∷ s) e = gone_on (GivenUp j b) s
          (gone s (below_left (home == j) (place_at p home (s ++ behind)) z.place e))
      gone (Mirrored now v ∷ s) e = gone_on (Mirrored now v) s (gone s e)
      gone (Offered octets b ∷ s) e = gone_on (Offered octets b) s (gone s e)
      gone (Answered octets ∷ s) e = gone_on (Answered octets) s (gone s e)
      gone (Ended ∷ s) e = absurd (no_entry e)

      record Taken (s : History) : Type 0 where
        between : History
        before : History
        is : s ≡ between ++ Accepted home ∷ before
        there : place_at p home (before ++ behind) ≡ Some z.place

      taken_on : (entry : HistoryEntry) (s : History) → Taken s → Taken (entry ∷ s)
      taken_on entry s t = record {
        between = entry ∷ t.between;
        before = t.before;
        is = ap (λ (l : History). entry ∷ l) t.is;
        there = t.there;
      }

      taken : (s : History) → is_taken p home z.place (s ++ behind) ≡ true → Taken s
      taken [] e = absurd (untaken e)
      taken (Judged now wall ys a ∷ s) e = taken_on (Judged now wall ys a) s (taken s e)
      taken (Sent j octets ∷ s) e = taken_on (Sent j octets) s (taken s e)
      taken (Accepted j ∷ s) e =
          by (home == j && is_place z.place (place_at p home (s ++ behind))) refl (taken s) e
        where
          by : (b : Bool) → (home == j && is_place z.place (place_at p home (s ++ behind))) ≡ b
              → (is_taken p home z.place (s ++ behind) ≡ true → Taken s)
              → (b || is_taken p home z.place (s ++ behind)) ≡ true → Taken (Accepted j ∷ s)
          by true at on f =
              let parts : _ = and_parts (home == j)
              (is_place z.place (place_at p home (s ++ behind))) at in
              record {
                between = [];
                before = s;
                is = ap (λ (i : ℕ). Accepted i ∷ s) (sym (eqb-true home j parts.0));
                there = place_is z.place (place_at p home (s ++ behind)) parts.1;
              }
          by false at on f = taken_on (Accepted j) s (on f)
      taken (Refused j a ∷ s) e = taken_on (Refused j a) s (taken s e)
      taken (GivenUp j b ∷ s) e = taken_on (GivenUp j b) s (taken s e)
      taken (Mirrored now v ∷ s) e = taken_on (Mirrored now v) s (taken s e)
      taken (Offered octets b ∷ s) e = taken_on (Offered octets b) s (taken s e)
      taken (Answered octets ∷ s) e = taken_on (Answered octets) s (taken s e)
      taken (Ended ∷ s) e = no_truth (sym e)

      record Confirmed (s : History) (m : ℕ) : Type 0 where
        later : History
        answer : AsduValue
        before : History
        is : s ≡ later ++ Mirrored m answer ∷ before
        so : confirms_so m answer ≡ true
        accepted : is_taken p home z.place (before ++ behind) ≡ true

      confirmed_on : (entry : HistoryEntry) (s : History) (m : ℕ) → Confirmed s m
          → Confirmed (entry ∷ s) m
      confirmed_on entry s m c = record {
        later = entry ∷ c.later;
        answer = c.answer;
        before = c.before;
        is = ap (λ (l : History). entry ∷ l) c.is;
        so = c.so;
        accepted = c.accepted;
      }

      found : (s : History) (m : ℕ) → confirmed (s ++ behind) ≡ Some m → Confirmed s m
      found [] m e = absurd (unconfirmed m e)
      found (Judged now wall ys a ∷ s) m e = confirmed_on (Judged now wall ys a) s m (found s m e)
      found (Sent j octets ∷ s) m e = confirmed_on (Sent j octets) s m (found s m e)
      found (Accepted j ∷ s) m e = confirmed_on (Accepted j) s m (found s m e)
      found (Refused j a ∷ s) m e = confirmed_on (Refused j a) s m (found s m e)
      found (GivenUp j b ∷ s) m e = confirmed_on (GivenUp j b) s m (found s m e)
      found (Mirrored now v ∷ s) m e =
          by (confirms_so now v && is_taken p home z.place (s ++ behind)) refl (found s m) e
        where
          by : (b : Bool) → (confirms_so now v && is_taken p home z.place (s ++ behind)) ≡ b
              → (confirmed (s ++ behind) ≡ Some m → Confirmed s m)
              → (if b then Some now else confirmed (s ++ behind)) ≡ Some m
              → Confirmed (Mirrored now v ∷ s) m
          by true at on f =
              let parts : _ = and_parts (confirms_so now v)
              (is_taken p home z.place (s ++ behind)) at in
              let same : now ≡ m = search (rules, f) in
              subst (λ (n : ℕ). Confirmed (Mirrored now v ∷ s) n) same (record {
                later = [];
                answer = v;
                before = s;
                is = refl;
                so = parts.0;
                accepted = parts.1;
              })
          by false at on f = confirmed_on (Mirrored now v) s m (on f)
      found (Offered octets b ∷ s) m e = confirmed_on (Offered octets b) s m (found s m e)
      found (Answered octets ∷ s) m e = confirmed_on (Answered octets) s m (found s m e)
      found (Ended ∷ s) m e = absurd (no_entry e)

  -- ---- the laws

  module _ (history : History) (selected : Selected p history) (forwards : Forwards p history)
      (answers : Answers p history) (xs : List ℕ) (now : ℕ) (wall : Option ℕ)
      (asks : must_be_selected p.stations xs ≡ true) (executing : executes xs ≡ true) where
    is_selected : (newer older : History) → history ≡ newer ++ Judged now wall xs None ∷ older
        → IsSelected p.sizes p.stations p.select_ms p.max_age_ms xs now older
    is_selected newer older is =
        (selected_then p newer (Judged now wall xs None ∷ older)
        (subst (Selected p) is selected)).0 asks executing

    pub not_before : (newer older : History)
        → history ≡ newer ++ Judged now wall xs None ∷ older → SelectsNothing xs older → ⊥
    not_before newer older is none =
        let s = is_selected newer older is in
        no_entry (still xs older [] s.select none
        (subst (λ (h : History). stood xs h ≡ Some s.select) (sym (append-nil older)) s.stands))

    pub not_behind : (newer since earlier : History) (end : HistoryEntry)
        → history ≡ newer ++ Judged now wall xs None ∷ (since ++ end ∷ earlier)
        → EndsSelection p xs end → SelectsNothing xs since → ⊥
    not_behind newer since earlier end is ends none =
        let s = is_selected newer (since ++ end ∷ earlier) is in
        over_then xs end earlier s.select ends
        (still xs since (end ∷ earlier) s.select none s.stands)

    pub by_latest : (newer since earlier : History) (came : ℕ) (clock : Option ℕ) (ys : List ℕ)
        → history ≡ newer ++ Judged now wall xs None
        ∷ (since ++ Judged came clock ys None ∷ earlier)
        → selects ys ≡ true → have_one_target xs ys ≡ true → SelectsNothing xs since
        → IsSelectedBy p ys came (Judged came clock ys None ∷ earlier) since earlier xs now
    by_latest newer since earlier came clock ys is selecting one none = record {
      received = subst (λ (y : Select). have_one_type y.octets xs ≡ true) (sym same) s.received;
      element = subst (λ (y : Select). have_one_element y.octets xs ≡ true) (sym same) s.element;
      test = subst (λ (y : Select). have_one_test_bit y.octets xs ≡ true) (sym same) s.test;
      later = con.later;
      between = took.between;
      stood = went.stood_there;
      waited = went.waited;
      octets = went.octets;
      con = s.moment;
      answer = con.answer;
      are = con.is
          ∙ ap (λ (l : History). con.later ++ Mirrored s.moment con.answer ∷ l)
          (took.is ∙ ap (λ (l : History). took.between ++ Accepted (home z) ∷ l) went.is);
      in_turn = went.turn;
      confirms = so.0;
      in_time = ltb-true (s.moment - came) p.select_ms so.1;
      lasts = s.in_time;
    }
      where
        behind : History
        behind = Judged came clock ys None ∷ earlier

        s : IsSelected p.sizes p.stations p.select_ms p.max_age_ms xs now (since ++ behind)
        s = is_selected newer (since ++ behind) is

        z : Select
        z = selected_as came ys earlier

        faultless : cause_of_fault p.sizes p.stations p.max_age_ms clock ys ≡ None
        faultless =
            (answers_then p since behind
            (answers_then p newer (Judged now wall xs None ∷ (since ++ behind))
            (subst (Answers p) is answers)).1).0

        before : Forwards p earlier
        before =
            forwards_then p since behind
            (forwards_then p newer (Judged now wall xs None ∷ (since ++ behind))
            (subst (Forwards p) is forwards))

        same : z ≡ s.select
        same = latest_is xs earlier came clock ys s.select faultless one
            (asks_alike p.stations xs ys one asks) selecting
            (still xs since behind s.select none s.stands)

        as_many : length (to_station p (home z) earlier) ≤ z.place
        as_many = omega arith

        unconfirmed : (m : ℕ) → confirmed z behind ≡ Some m → ⊥
        unconfirmed m e = not_confirmed z earlier m before as_many e

        untaken : is_taken p (home z) z.place behind ≡ true → ⊥
        untaken e = not_taken p (home z) z.place earlier before as_many e

        unsent : place_at p (home z) behind ≡ Some z.place → ⊥
        unsent e = not_there p (home z) z.place earlier before as_many e

        con : Confirmed z behind unconfirmed untaken unsent since s.moment
        con = found z behind unconfirmed untaken unsent since s.moment
            (subst (λ (y : Select). confirmed y (since ++ behind) ≡ Some s.moment) (sym same)
            s.confirmed)

        so : (confirms_command ys con.answer ≡ true)
            × (nat_lt (s.moment - came) p.select_ms ≡ true)
        so = and_parts (confirms_command ys con.answer)
            (nat_lt (s.moment - came) p.select_ms) con.so

        took : Taken z behind unconfirmed untaken unsent con.before
        took = taken z behind unconfirmed untaken unsent con.before con.accepted

        went : Gone z behind unconfirmed untaken unsent took.before
        went = gone z behind unconfirmed untaken unsent took.before took.there
