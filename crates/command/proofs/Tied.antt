-- Each selection is the select that stands, and has come as far as the history says.
use Rattle.std.proofs.Common.{◌≡◌, ℕ, zero, suc, ◌+◌, ◌-◌, ◌||◌, Bool, true, false, List, [], ◌∷◌}
use Rattle.std.proofs.Common.{refl, subst, ap, ◌∙◌, arith}
use Rattle.std.specs.Prelude.{◌==◌, Option, Some, None, if◌then◌else◌}
use Rattle.std.specs.List.{filter_map, AllByRecursion, cons_option}
use Rattle.command.proofs.Sendings.{same}
use Rattle.std.proofs.lemmas.Bool.{eqb-true}
use Rattle.asdu.specs.declared.sizes.Sizes.{Sizes}
use Rattle.command.specs.declared.content.Command.{Command}
use Rattle.command.specs.declared.station.StationInfo.{StationInfo}
use Rattle.command.specs.declared.selection.Selection.{Selection}
use Rattle.command.specs.declared.selection.SelectStage.{SelectStage}
use Rattle.command.specs.declared.selection.SelectStage.TheVariants as stage
use Rattle.command.specs.declared.selection.Sign.TheVariants as sign
use Rattle.command.specs.Selection.{advanced, target_of, after_sending, after_acceptance}
use Rattle.command.specs.Selection.{after_loss}
use Rattle.command.specs.Stations.{station_number}
use Rattle.command.specs.History.{Judged, Sent, Accepted, Refused, GivenUp, Offered, Answered}
use Rattle.command.specs.History.{History, sent_count, place_on_line, is_accepted_at, is_place}
use Rattle.command.proofs.Machine.{Select, standing, confirmed_at}

pub flip : (a b : ℕ) (t : Bool) → (a == b) ≡ t → (b == a) ≡ t
flip a b true h = grind (arith, eqb-true a b h)
flip a b false h = grind (arith, h)

-- what P says of the item, if there is one
abbrev pub Perhaps : {X : Type 0} → (X → Type 0) → Option X → Type 0
Perhaps P None = Unit {0}
Perhaps P (Some x) = P x

joined : {Y : Type 0} (Q : Y → Type 0) (y : Option Y) (ys : List Y) → Perhaps Q y
    → AllByRecursion Q ys
    → AllByRecursion Q (cons_option y ys)
joined Q None ys q h = h
joined Q (Some y) ys q h = (q, h)

pub all_kept : {X Y : Type 0} (f : X → Option Y) (P : X → Type 0) (Q : Y → Type 0)
    → ((x : X) → P x → Perhaps Q (f x))
    → (xs : List X) → AllByRecursion P xs → AllByRecursion Q (filter_map f xs)
all_kept f P Q g [] h = tt
all_kept f P Q g (x ∷ xs) h = joined Q (f x) (filter_map f xs) (g x h.0) (all_kept f P Q g xs h.1)

pub all_mapped : {X : Type 0} (P Q : X → Type 0) → ((x : X) → P x → Q x) → (xs : List X)
    → AllByRecursion P xs
    → AllByRecursion Q xs
all_mapped P Q g [] h = tt
all_mapped P Q g (x ∷ xs) h = (g x h.0, all_mapped P Q g xs h.1)

module _ (sizes : Sizes) (stations : List StationInfo) (select_ms max_age_ms : ℕ) where
  abbrev pub station_at : Command → ℕ
  station_at c = station_number c.ca stations

  abbrev pub select_of : Selection → ℕ → Select
  select_of z place = record { command = z.command; came = z.came; place = place }

  abbrev pub AtStage : SelectStage → ℕ → Select → History → Type 0
  AtStage (stage.Queued ahead) k c h = c.place ≡ sent_count sizes stations select_ms max_age_ms k h
      + ahead
  AtStage stage.Sent k c h = place_on_line sizes stations select_ms max_age_ms k h ≡ Some c.place
  AtStage stage.Accepted k c h = is_accepted_at sizes stations select_ms max_age_ms k c.place h
      ≡ true
  AtStage (stage.Live since) k c h = (is_accepted_at sizes stations select_ms max_age_ms k c.place h
      ≡ true)
      × (confirmed_at sizes stations select_ms max_age_ms c h ≡ Some since)

  pub record Tied (h : History) (z : Selection) : Type 0 where
    pub place : ℕ
    pub station : z.station ≡ station_at z.command
    pub stands : standing sizes stations select_ms max_age_ms (target_of z.command) h
        ≡ Some (select_of z place)
    pub at_stage : AtStage z.stage (station_at z.command) (select_of z place) h

  -- z at stage st
  abbrev pub at : Selection → SelectStage → Selection
  at z st = record { station = z.station; command = z.command; came = z.came; stage = st }

  abbrev stands_in : History → Selection → ℕ → Type 0
  stands_in h z p = standing sizes stations select_ms max_age_ms (target_of z.command) h
      ≡ Some (select_of z p)

  -- a first sending to station j; here k is the selection's station
  sending_at : (h : History) (octets : List ℕ) (j : ℕ) (z : Selection) (p : ℕ) (s : z.station
      ≡ station_at z.command)
      (d : stands_in h z p) (st : SelectStage) →
      AtStage st (station_at z.command) (select_of z p) h → (b : Bool) → (station_at z.command == j)
      ≡ b →
      Perhaps (Tied (Sent j octets ∷ h)) (if b then after_sending st (at z st) else Some (at z st))
  sending_at h octets j z p s d (stage.Queued zero) a true e =
      let l : sent_count sizes stations select_ms max_age_ms (station_at z.command) h ≡ p =
      omega (arith, a) in
      record { place = p; station = s; stands = d; at_stage = rw e (ap (λ (n : ℕ). Some n) l) }
  sending_at h octets j z p s d (stage.Queued (suc n)) a true e =
      let off : (suc n == 0) ≡ false = grind arith in
      let less : suc n - 1 ≡ n = omega arith in
      let l : p ≡ suc (sent_count sizes stations select_ms max_age_ms (station_at z.command) h)
      + n =
      omega (arith, a) in
      rw (off, less) (record { place = p; station = s; stands = d; at_stage = rw e l })
  sending_at h octets j z p s d stage.Sent a true e = tt
  sending_at h octets j z p s d stage.Accepted a true e =
      record { place = p; station = s; stands = d; at_stage = a }
  sending_at h octets j z p s d (stage.Live since) a true e =
      record { place = p; station = s; stands = d; at_stage = a }
  sending_at h octets j z p s d (stage.Queued n) a false e =
      record { place = p; station = s; stands = d; at_stage = rw e a }
  sending_at h octets j z p s d stage.Sent a false e =
      record { place = p; station = s; stands = d; at_stage = rw e a }
  sending_at h octets j z p s d stage.Accepted a false e =
      record { place = p; station = s; stands = d; at_stage = a }
  sending_at h octets j z p s d (stage.Live since) a false e =
      record { place = p; station = s; stands = d; at_stage = a }

  at_station : (z : Selection) (j : ℕ) (b : Bool) → z.station ≡ station_at z.command
      → (z.station == j) ≡ b
      → (station_at z.command == j) ≡ b
  at_station z j b s e = subst (λ n. (n == j) ≡ b) s e

  pub sending : (h : History) (octets : List ℕ) (j : ℕ) (z : Selection) → Tied h z
      → Perhaps (Tied (Sent j octets ∷ h)) (advanced select_ms (sign.Sending j) z)
  sending h octets j z t = sending_at h octets j z t.place t.station t.stands z.stage t.at_stage
      (z.station == j)
      (at_station z j (z.station == j) t.station refl)

  -- the station accepted the command
  is_place_of : (p : ℕ) (x : Option ℕ) → x ≡ Some p → is_place p x ≡ true
  is_place_of p x h = rw (h, same p) refl

  or_right : (b c : Bool) → c ≡ true → (b || c) ≡ true
  or_right true c h = refl
  or_right false c h = h

  acceptance_at : (h : History) (j : ℕ) (z : Selection) (p : ℕ) (s : z.station
      ≡ station_at z.command)
      (d : stands_in h z p) (st : SelectStage) →
      AtStage st (station_at z.command) (select_of z p) h → (b : Bool) → (station_at z.command == j)
      ≡ b →
      Perhaps (Tied (Accepted j ∷ h)) (if b then after_acceptance st (at z st) else Some (at z st))
  acceptance_at h j z p s d (stage.Queued n) a true e =
      record { place = p; station = s; stands = d; at_stage = a }
  acceptance_at h j z p s d stage.Sent a true e = record {
    place = p;
    station = s;
    stands = d;
    at_stage =
        rw (
          e,
          is_place_of p (place_on_line sizes stations select_ms max_age_ms
              (station_at z.command) h) a,
        ) refl;
  }
  acceptance_at h j z p s d stage.Accepted a true e = record {
    place = p;
    station = s;
    stands = d;
    at_stage =
        or_right _ _ a;
  }
  acceptance_at h j z p s d (stage.Live since) a true e =
      record { place = p; station = s; stands = d; at_stage = (or_right _ _ a.0, a.1) }
  acceptance_at h j z p s d (stage.Queued n) a false e =
      record { place = p; station = s; stands = d; at_stage = a }
  acceptance_at h j z p s d stage.Sent a false e =
      record { place = p; station = s; stands = d; at_stage = rw e a }
  acceptance_at h j z p s d stage.Accepted a false e =
      record { place = p; station = s; stands = d; at_stage = or_right _ _ a }
  acceptance_at h j z p s d (stage.Live since) a false e =
      record { place = p; station = s; stands = d; at_stage = (or_right _ _ a.0, a.1) }

  pub acceptance : (h : History) (j : ℕ) (z : Selection) → Tied h z
      → Perhaps (Tied (Accepted j ∷ h)) (advanced select_ms (sign.Acceptance j) z)
  acceptance h j z t = acceptance_at h j z t.place t.station t.stands z.stage t.at_stage
      (z.station == j)
      (at_station z j (z.station == j) t.station refl)

  -- the command on the line is done without being accepted
  refusal_at : (h : History) (j : ℕ) (answer : Option (List ℕ)) (z : Selection) (p : ℕ)
      (s : z.station
      ≡ station_at z.command) (d : stands_in h z p) (st : SelectStage) →
      AtStage st (station_at z.command) (select_of z p) h → (b : Bool) → (station_at z.command == j)
      ≡ b →
      Perhaps (Tied (Refused j answer ∷ h)) (if b then after_loss st (at z st) else Some (at z st))
  refusal_at h j answer z p s d (stage.Queued n) a true e =
      record { place = p; station = s; stands = d; at_stage = a }
  refusal_at h j answer z p s d stage.Sent a true e = tt
  refusal_at h j answer z p s d stage.Accepted a true e =
      record { place = p; station = s; stands = d; at_stage = a }
  refusal_at h j answer z p s d (stage.Live since) a true e =
      record { place = p; station = s; stands = d; at_stage = a }
  refusal_at h j answer z p s d (stage.Queued n) a false e =
      record { place = p; station = s; stands = d; at_stage = a }
  refusal_at h j answer z p s d stage.Sent a false e =
      record { place = p; station = s; stands = d; at_stage = rw e a }
  refusal_at h j answer z p s d stage.Accepted a false e =
      record { place = p; station = s; stands = d; at_stage = a }
  refusal_at h j answer z p s d (stage.Live since) a false e =
      record { place = p; station = s; stands = d; at_stage = a }

  pub refused : (h : History) (j : ℕ) (answer : Option (List ℕ)) (z : Selection) → Tied h z
      → Perhaps (Tied (Refused j answer ∷ h)) (advanced select_ms (sign.Loss j) z)
  refused h j answer z t = refusal_at h j answer z t.place t.station t.stands z.stage t.at_stage
      (z.station == j)
      (at_station z j (z.station == j) t.station refl)

  given_up_at : (h : History) (j : ℕ) (there : Bool) (z : Selection) (p : ℕ) (s : z.station
      ≡ station_at z.command)
      (d : stands_in h z p) (st : SelectStage) →
      AtStage st (station_at z.command) (select_of z p) h → (b : Bool) → (station_at z.command == j)
      ≡ b →
      Perhaps (Tied (GivenUp j there ∷ h)) (if b then after_loss st (at z st) else Some (at z st))
  given_up_at h j there z p s d (stage.Queued n) a true e =
      record { place = p; station = s; stands = d; at_stage = a }
  given_up_at h j there z p s d stage.Sent a true e = tt
  given_up_at h j there z p s d stage.Accepted a true e =
      record { place = p; station = s; stands = d; at_stage = a }
  given_up_at h j there z p s d (stage.Live since) a true e =
      record { place = p; station = s; stands = d; at_stage = a }
  given_up_at h j there z p s d (stage.Queued n) a false e =
      record { place = p; station = s; stands = d; at_stage = a }
  given_up_at h j there z p s d stage.Sent a false e =
      record { place = p; station = s; stands = d; at_stage = rw e a }
  given_up_at h j there z p s d stage.Accepted a false e =
      record { place = p; station = s; stands = d; at_stage = a }
  given_up_at h j there z p s d (stage.Live since) a false e =
      record { place = p; station = s; stands = d; at_stage = a }

  pub given_up : (h : History) (j : ℕ) (there : Bool) (z : Selection) → Tied h z
      → Perhaps (Tied (GivenUp j there ∷ h)) (advanced select_ms (sign.Loss j) z)
  given_up h j there z t = given_up_at h j there z t.place t.station t.stands z.stage t.at_stage
      (z.station == j)
      (at_station z j (z.station == j) t.station refl)

  -- time takes selections off
  timed_at : (h : History) (z : Selection) (b : Bool) → Tied h z
      → Perhaps (Tied h) (if b then None else Some z)
  timed_at h z true t = tt
  timed_at h z false t = t

  pub in_time : (h : History) (now : ℕ) (z : Selection) → Tied h z
      → Perhaps (Tied h) (advanced select_ms (sign.Time now) z)
  in_time h now z t = timed_at h z _ t

  -- what is judged and isn't for the selection's target, or leaves its select standing
  judged_stage : (h : History) (now : ℕ) (wall : Option ℕ) (xs : List ℕ) (b : Option (List ℕ))
      (k : ℕ) (c : Select)
      (st : SelectStage) → AtStage st k c h → AtStage st k c (Judged now wall xs b ∷ h)
  judged_stage h now wall xs b k c (stage.Queued n) a = a
  judged_stage h now wall xs b k c stage.Sent a = a
  judged_stage h now wall xs b k c stage.Accepted a = a
  judged_stage h now wall xs b k c (stage.Live since) a = a

  pub judged_tied : (h : History) (now : ℕ) (wall : Option ℕ) (xs : List ℕ) (b : Option (List ℕ))
      (z : Selection)
      (t : Tied h z) → standing sizes stations select_ms max_age_ms (target_of z.command)
      (Judged now wall xs b ∷ h)
      ≡ standing sizes stations select_ms max_age_ms (target_of z.command) h
      → Tied (Judged now wall xs b ∷ h) z
  judged_tied h now wall xs b z t e = record {
    place = t.place;
    station = t.station;
    stands = e ∙ t.stands;
    at_stage =
        judged_stage h now wall xs b (station_at z.command) (select_of z t.place) z.stage
        t.at_stage;
  }

  -- what is logged of own answers is no matter of selections
  other_stage : (h : History) (octets : List ℕ) (b : Bool) (k : ℕ) (c : Select) (st : SelectStage)
      → AtStage st k c h
      → AtStage st k c (Offered octets b ∷ h)
  other_stage h octets b k c (stage.Queued n) a = a
  other_stage h octets b k c stage.Sent a = a
  other_stage h octets b k c stage.Accepted a = a
  other_stage h octets b k c (stage.Live since) a = a

  pub other_logged : (h : History) (octets : List ℕ) (b : Bool) (z : Selection) → Tied h z
      → Tied (Offered octets b ∷ h) z
  other_logged h octets b z t = record {
    place = t.place;
    station = t.station;
    stands = t.stands;
    at_stage =
        other_stage h octets b (station_at z.command) (select_of z t.place) z.stage t.at_stage;
  }

  answer_stage : (h : History) (octets : List ℕ) (k : ℕ) (c : Select) (st : SelectStage)
      → AtStage st k c h
      → AtStage st k c (Answered octets ∷ h)
  answer_stage h octets k c (stage.Queued n) a = a
  answer_stage h octets k c stage.Sent a = a
  answer_stage h octets k c stage.Accepted a = a
  answer_stage h octets k c (stage.Live since) a = a

  pub answer_logged : (h : History) (octets : List ℕ) (z : Selection) → Tied h z
      → Tied (Answered octets ∷ h) z
  answer_logged h octets z t = record {
    place = t.place;
    station = t.station;
    stands = t.stands;
    at_stage =
        answer_stage h octets (station_at z.command) (select_of z t.place) z.stage t.at_stage;
  }
