-- A command goes out for the first time on the connection on which it came, and on no other.
use Rattle.std.specs.Prelude.{◌==◌, slice_get}
use Rattle.std.specs.Option.{option_map_or}
use Rattle.std.specs.Prelude.{option_map, get_or}
use Rattle.std.proofs.Common.{◌≡◌, ℕ, zero, suc, ◌-◌, ◌<◌, ◌≤◌, Bool, true, false, List, [], ◌∷◌}
use Rattle.std.proofs.Common.{◌++◌, map, drop, length, Option, Some, None, refl, ap, sym, subst}
use Rattle.std.proofs.Common.{◌∙◌}
use Rattle.std.proofs.Common.{◌⊎◌, inl, inr, length-append, arith, if◌then◌else◌}
use Rattle.std.specs.List.{AllByRecursion}
use Rattle.std.proofs.lemmas.List.{map-append}
use Rattle.std.proofs.lemmas.Bool.{eqb-true}
use Rattle.apci.specs.declared.apdu.Apdu.{Apdu}
use Rattle.apci.specs.declared.apdu.Apdu.TheVariants.{I, S, U}
use Rattle.command.specs.declared.station.StationInfo.{StationInfo}
use Rattle.command.specs.declared.waiting.Waiting.{Waiting}
use Rattle.command.specs.Calls.{after_sending}
use Rattle.command.specs.State.{oldest_for}
use Rattle.command.specs.Standard.{cause_of_fault}
use Rattle.command.specs.History.{History, Judged, Sent, Accepted, Refused, GivenUp, Mirrored}
use Rattle.command.specs.History.{Offered, Answered, Ended, first, is_for, forwarded_to, sent_count}
use Rattle.command.specs.History.{next_for, next_octets, line_octets, ForwardsCommands}
use Rattle.command.specs.History.{GivesOwnAnswers}
use Rattle.gateway.specs.Log.{Log, Came, Went, Opened, LineIn, TcpIn, CutOff, Ticked, WallIs}
use Rattle.gateway.specs.Log.{Restarted, LineOut, TcpOut, Closed, GapOut, latest}
use Rattle.gateway.specs.Connections.{Channel, present, ends, receiving, no_channel}
use Rattle.gateway.specs.Streams.{spelled}
use Rattle.gateway.specs.Reports.{Setup}
use Rattle.gateway.specs.Serial.{is_first_command}
use Rattle.gateway.specs.Works.{Works, tasks_of, put_first, unless_silent_works, settled_works}
use Rattle.gateway.specs.Course.{Course, came_frames, HasTakenAll, SendsNext}
use Rattle.delivery.specs.Arrivals.{Arrival, present_logs, arrivals_in}
use Rattle.delivery.specs.Commands.{judged_here, asdus_in, sent_to, line_form, on_line_of}
use Rattle.delivery.specs.FirstSendings.{first_sent, SendsNoneFirst, SendsFirst, open_arrivals}
use Rattle.delivery.specs.FirstSendings.{IsBehind, OpensNone}
use Rattle.delivery.specs.Joined.{IsJoined}
use Rattle.delivery.specs.Merges.{IsSublist}
use Rattle.delivery.proofs.Arriving.{logs_as_octets, spelled_grows}
use Rattle.delivery.proofs.Plain.{plain_line}
use Rattle.delivery.proofs.Sublists.{sub_all, sub_of_sub, sub_append, sub_prefix, all_of_sub}
use Rattle.delivery.proofs.Sublists.{all_append, IsImage, sub_of_map}

-- ---- What became of commands

first_in : (n : ℕ) (xss : List (List ℕ)) (xs : List ℕ) → first (drop n xss) ≡ Some xs
    → IsSublist (xs ∷ []) xss
first_in zero [] xs e = cc
first_in zero (ys ∷ yss) xs e = let same : xs ≡ ys = cc in inl (same, tt)
first_in (suc n) [] xs e = cc
first_in (suc n) (ys ∷ yss) xs e = inr (first_in n yss xs e)

module _ (p : Setup) (k : ℕ) where
  abbrev forwarded : History → List (List ℕ)
  forwarded h = forwarded_to p.sizes p.stations p.select_ms p.max_age_ms k h

  -- what waits for the station came since the latest connection was over
  forwarded_here : (h : History) → IsSublist (forwarded h) (judged_here h)
  forwarded_here [] = tt
  forwarded_here (Judged now wall xs None ∷ h) =
      go (is_for p.sizes p.stations p.select_ms p.max_age_ms k xs) (forwarded_here h)
    where
      go : (b : Bool) → IsSublist (forwarded h) (judged_here h)
          → IsSublist (if b then forwarded h ++ xs ∷ [] else forwarded h)
          (judged_here h ++ xs ∷ [])
      go true ih = sub_append (forwarded h) (judged_here h) (xs ∷ []) (xs ∷ []) ih
          (sub_all (xs ∷ []))
      go false ih = sub_of_sub (forwarded h) (judged_here h) (judged_here h ++ xs ∷ []) ih
          (sub_prefix (judged_here h) (xs ∷ []))
  forwarded_here (Judged now wall xs (Some a) ∷ h) =
      sub_of_sub (forwarded h) (judged_here h) (judged_here h ++ xs ∷ []) (forwarded_here h)
      (sub_prefix (judged_here h) (xs ∷ []))
  forwarded_here (Sent j octets ∷ h) = forwarded_here h
  forwarded_here (Accepted j ∷ h) = forwarded_here h
  forwarded_here (Refused j a ∷ h) = forwarded_here h
  forwarded_here (GivenUp j b ∷ h) = forwarded_here h
  forwarded_here (Mirrored now v ∷ h) = forwarded_here h
  forwarded_here (Offered octets b ∷ h) = forwarded_here h
  forwarded_here (Answered octets ∷ h) = forwarded_here h
  forwarded_here (Ended ∷ h) = tt

  abbrev HasNoFault : List ℕ → Type 0
  HasNoFault xs = (wall : Option ℕ) × (cause_of_fault p.sizes p.stations p.max_age_ms wall xs
      ≡ None)

  -- and nothing is wrong with it
  forwarded_right : (h : History)
      → GivesOwnAnswers p.sizes p.stations p.select_ms p.max_age_ms h
      → AllByRecursion HasNoFault (forwarded h)
  forwarded_right [] g = tt
  forwarded_right (Judged now wall xs None ∷ h) g =
      go (is_for p.sizes p.stations p.select_ms p.max_age_ms k xs) (forwarded_right h g.1)
    where
      go : (b : Bool) → AllByRecursion HasNoFault (forwarded h)
          → AllByRecursion HasNoFault (if b then forwarded h ++ xs ∷ [] else forwarded h)
      go true ih = all_append HasNoFault (forwarded h) (xs ∷ []) ih ((wall, g.0), tt)
      go false ih = ih
  forwarded_right (Judged now wall xs (Some a) ∷ h) g = forwarded_right h g.1
  forwarded_right (Sent j octets ∷ h) g = forwarded_right h g
  forwarded_right (Accepted j ∷ h) g = forwarded_right h g
  forwarded_right (Refused j a ∷ h) g = forwarded_right h g.1
  forwarded_right (GivenUp j b ∷ h) g = forwarded_right h g.1
  forwarded_right (Mirrored now v ∷ h) g = forwarded_right h g
  forwarded_right (Offered octets b ∷ h) g = forwarded_right h g
  forwarded_right (Answered octets ∷ h) g = forwarded_right h g
  forwarded_right (Ended ∷ h) g = tt

  -- it goes to the line octet by octet
  as_on_line : (xs : List ℕ) → HasNoFault xs
      → option_map_or (line_octets p.sizes xs) (slice_get p.stations k) [] ≡ on_line_of p k xs
  as_on_line xs right = go (slice_get p.stations k)
    where
      go : (o : Option StationInfo) → option_map_or (line_octets p.sizes xs) o []
          ≡ option_map_or (line_form p.sizes xs) o []
      go None = refl
      go (Some station) =
          plain_line p.sizes p.stations p.max_age_ms right.0 xs station right.1

  -- what went out last is one of what was judged since the latest connection was over
  record IsOneOf (octets : List ℕ) (h : History) : Type 0 where
    asdu : List ℕ
    among : IsSublist (asdu ∷ []) (judged_here h)
    is : octets ≡ on_line_of p k asdu

  next_is : (octets : List ℕ) (h : History)
      → next_octets p.sizes p.stations p.select_ms p.max_age_ms k h ≡ Some octets
      → GivesOwnAnswers p.sizes p.stations p.select_ms p.max_age_ms h → IsOneOf octets h
  next_is octets h e g = go (next_for p.sizes p.stations p.select_ms p.max_age_ms k h) refl e
    where
      go : (o : Option (List ℕ)) → next_for p.sizes p.stations p.select_ms p.max_age_ms k h ≡ o
          → option_map (λ (xs : List ℕ). option_map_or (line_octets p.sizes xs)
          (slice_get p.stations k) []) o ≡ Some octets
          → IsOneOf octets h
      go None is e = cc
      go (Some xs) is e =
          let among : IsSublist (xs ∷ []) (forwarded h) =
          first_in (sent_count p.sizes p.stations p.select_ms p.max_age_ms k h) (forwarded h) xs
          is in
          let right : HasNoFault xs =
          (all_of_sub HasNoFault (xs ∷ []) (forwarded h) among (forwarded_right h g)).0 in
          let line : octets
          ≡ option_map_or (line_octets p.sizes xs) (slice_get p.stations k) [] = cc in
          record {
            asdu = xs;
            among = sub_of_sub (xs ∷ []) (forwarded h) (judged_here h) among (forwarded_here h);
            is = line ∙ as_on_line xs right;
          }

  -- the request puts no command to the station on the line, or one of these
  record Puts (h new : History) : Type 0 where
    octets : List ℕ
    one : IsOneOf octets h
    more : sent_to k new ≡ sent_to k h ++ octets ∷ []

  abbrev MayPut : History → History → Type 0
  MayPut h new = (sent_to k new ≡ sent_to k h) ⊎ Puts h new

  sends : (j : ℕ) (octets : List ℕ) (h : History)
      → ForwardsCommands p.sizes p.stations p.select_ms p.max_age_ms (Sent j octets ∷ h)
      → GivesOwnAnswers p.sizes p.stations p.select_ms p.max_age_ms h
      → MayPut h (Sent j octets ∷ h)
  sends j octets h f g = go (k == j) refl
    where
      go : (b : Bool) → (k == j) ≡ b → MayPut h (Sent j octets ∷ h)
      go false e = inl (ap (λ (b : Bool). if b then sent_to k h ++ octets ∷ [] else sent_to k h) e)
      go true e = inr (record {
        octets = octets;
        one = next_is octets h
            (ap (λ (n : ℕ). next_octets p.sizes p.stations p.select_ms p.max_age_ms n h)
            (eqb-true k j e) ∙ f.0) g;
        more = ap (λ (b : Bool). if b then sent_to k h ++ octets ∷ [] else sent_to k h) e;
      })

  puts : (b : Bool) (j : ℕ) (w : Works)
      → ForwardsCommands p.sizes p.stations p.select_ms p.max_age_ms
      (put_first b j (tasks_of w)).history
      → GivesOwnAnswers p.sizes p.stations p.select_ms p.max_age_ms
      (put_first b j (tasks_of w)).history
      → MayPut w.history (put_first b j (tasks_of w)).history
  puts false j w f g = inl refl
  puts true j w f g = by_oldest (oldest_for j w.serial.commands) f g
    where
      by_oldest : (o : Option Waiting)
          → ForwardsCommands p.sizes p.stations p.select_ms p.max_age_ms
          (after_sending o j (tasks_of w)).history
          → GivesOwnAnswers p.sizes p.stations p.select_ms p.max_age_ms
          (after_sending o j (tasks_of w)).history
          → MayPut w.history (after_sending o j (tasks_of w)).history
      by_oldest None f g = inl refl
      by_oldest (Some x) f g = sends j x.octets w.history f g

  settled_sent : (at : ℕ) (w : Works)
      → sent_to k (settled_works at w).history ≡ sent_to k w.history
  settled_sent at w = by_silent w.serial.silent
    where
      by_silent : (o : Option ℕ)
          → sent_to k (unless_silent_works o w).history ≡ sent_to k w.history
      by_silent None = refl
      by_silent (Some j) = refl

  settled_here : (at : ℕ) (w : Works)
      → judged_here (settled_works at w).history ≡ judged_here w.history
  settled_here at w = by_silent w.serial.silent
    where
      by_silent : (o : Option ℕ)
          → judged_here (unless_silent_works o w).history ≡ judged_here w.history
      by_silent None = refl
      by_silent (Some j) = refl

-- ---- What came

asdus_are : (frames : List Apdu) (logs : List Log)
    → map (λ (x : Arrival). x.asdu) (arrivals_in frames logs) ≡ asdus_in frames
asdus_are [] logs = refl
asdus_are (I ns nr asdu ∷ older) logs =
    map-append (λ (x : Arrival). x.asdu) (arrivals_in older logs) _
    ∙ ap (λ (l : List (List ℕ)). l ++ asdu.items ∷ []) (asdus_are older logs)
asdus_are (S nr ∷ older) logs = asdus_are older logs
asdus_are (U u ∷ older) logs = asdus_are older logs

all_got : (P : Log → Type 0) (n : ℕ) (logs : List Log) → AllByRecursion P logs → n < length logs
    → P (get_or logs n [])
all_got P n [] all h = absurd (omega (arith, h))
all_got P zero (l ∷ logs) all h = all.0
all_got P (suc n) (l ∷ logs) all h = all_got P n logs all.1 (omega (arith, h))

-- what holds of the log of each octet holds of that of each frame
all_arrived : (P : Log → Type 0) (frames : List Apdu) (logs : List Log)
    → length (spelled frames) ≤ length logs → AllByRecursion P logs
    → AllByRecursion (λ (x : Arrival). P x.log) (arrivals_in frames logs)
all_arrived P [] logs h all = tt
all_arrived P (I ns nr asdu ∷ older) logs h all =
    let longer = spelled_grows (I ns nr asdu) older in
    all_append (λ (x : Arrival). P x.log) (arrivals_in older logs) _
    (all_arrived P older logs (omega (arith, h, longer)) all) (
      all_got P (length (spelled (I ns nr asdu ∷ older)) - 1) logs all (omega (arith, h, longer)),
      tt,
    )
all_arrived P (S nr ∷ older) logs h all =
    all_arrived P older logs (omega (arith, h, spelled_grows (S nr) older)) all
all_arrived P (U u ∷ older) logs h all =
    all_arrived P older logs (omega (arith, h, spelled_grows (U u) older)) all

-- ---- A request

-- A request is no first sending of a command to the station, or that of one that came on the open
-- connection.
pub of_the_open_one : (p : Setup) (k now : ℕ) (octets : List ℕ) (log : Log) (before c : Course)
    → IsJoined p log before → IsJoined p (Went now (LineOut octets) ∷ log) c
    → SendsNext p log octets before c
    → ForwardsCommands p.sizes p.stations p.select_ms p.max_age_ms c.works.history
    → GivesOwnAnswers p.sizes p.stations p.select_ms p.max_age_ms c.works.history
    → SendsNoneFirst p k now octets log
    ⊎ SendsFirst p k now octets log (open_arrivals log before)
of_the_open_one p k now octets log before c joined later sends forwards gives =
    elim (puts p k first x ready (subst Forwards asked forwards) (subst Gives asked gives)) [
      | inl same ↦ inl (sym (later.sent k) ∙ ap (sent_to k) asked ∙ same
          ∙ settled_sent p k (latest log) before.works ∙ joined.sent k)
      | inr put ↦ inr (among put)
    ]
  where
    ready : Works
    ready = settled_works (latest log) before.works

    x : ℕ
    x = sends.request.station

    first : Bool
    first = is_first_command ready.serial.line sends.request

    Forwards : History → Type 0
    Forwards h = ForwardsCommands p.sizes p.stations p.select_ms p.max_age_ms h

    Gives : History → Type 0
    Gives h = GivesOwnAnswers p.sizes p.stations p.select_ms p.max_age_ms h

    asked : c.works.history ≡ (put_first first x (tasks_of ready)).history
    asked = ap (λ (d : Course). d.works.history) sends.is

    came : List Arrival
    came = open_arrivals log before

    among : Puts p k ready.history (put_first first x (tasks_of ready)).history
        → SendsFirst p k now octets log came
    among put =
        let image : IsImage (λ (a : Arrival). a.asdu) (put.one.asdu ∷ []) came =
        sub_of_map (λ (a : Arrival). a.asdu) (put.one.asdu ∷ []) came
        (subst (IsSublist (put.one.asdu ∷ []))
        (settled_here p k (latest log) before.works ∙ joined.here
        ∙ sym (asdus_are (came_frames before.talk) (present_logs log))) put.one.among) in
        one image.left image.part image.is
      where
        goes : sent_to k c.works.history ≡ sent_to k before.works.history
            ++ on_line_of p k put.one.asdu ∷ []
        goes = ap (sent_to k) asked ∙ put.more
            ∙ ap (λ (l : List (List ℕ)). l ++ put.octets ∷ [])
            (settled_sent p k (latest log) before.works)
            ∙ ap (λ (o : List ℕ). sent_to k before.works.history ++ o ∷ []) put.one.is

        one : (left : List Arrival) → IsSublist left came
            → put.one.asdu ∷ [] ≡ map (λ (a : Arrival). a.asdu) left
            → SendsFirst p k now octets log came
        one [] part is = cc
        one (a ∷ []) part is =
            let same : put.one.asdu ≡ a.asdu = cc in
            record {
              command = a;
              among = part;
              goes = sym (later.sent k) ∙ goes
                  ∙ ap (λ (l : List (List ℕ)). l ++ on_line_of p k put.one.asdu ∷ [])
                  (joined.sent k)
                  ∙ ap (λ (xs : List ℕ). first_sent p k log ++ on_line_of p k xs ∷ []) same;
            }
        one (a ∷ b ∷ more) part is = cc

-- if no connection is open, it is none
pub of_none : (p : Setup) (k now : ℕ) (octets : List ℕ) (log : Log) (c : Course)
    → came_frames c.talk ≡ []
    → SendsNoneFirst p k now octets log ⊎ SendsFirst p k now octets log (open_arrivals log c)
    → SendsNoneFirst p k now octets log
of_none p k now octets log c none (inl same) = same
of_none p k now octets log c none (inr sends) =
    absurd (subst (λ (frames : List Apdu).
    IsSublist (sends.command ∷ []) (arrivals_in frames (present_logs log))) none sends.among)

-- ---- A restart

module _ (at : ℕ) (older : Log) where
  abbrev restart : Log
  restart = Came at Restarted ∷ older

  -- what the open connection received came behind it
  octets_behind : (since : Log)
      → AllByRecursion (IsBehind at older) (present_logs (since ++ restart))
  octets_behind [] = tt
  octets_behind (Came t Opened ∷ since) = tt
  octets_behind (Came t CutOff ∷ since) = tt
  octets_behind (Came t Restarted ∷ since) = tt
  octets_behind (Came t (TcpIn octets) ∷ since) =
      go (present (since ++ restart)).is_open (octets_behind since)
    where
      here : Log
      here = Came t (TcpIn octets) ∷ (since ++ restart)

      each : (xs : List ℕ) → AllByRecursion (IsBehind at older) (map (λ (octet : ℕ). here) xs)
      each [] = tt
      each (x ∷ xs) = ((Came t (TcpIn octets) ∷ since, refl), each xs)

      go : (b : Bool) → AllByRecursion (IsBehind at older) (present_logs (since ++ restart))
          → AllByRecursion (IsBehind at older)
          (if b then present_logs (since ++ restart) ++ map (λ (octet : ℕ). here) octets
          else present_logs (since ++ restart))
      go true ih = all_append (IsBehind at older) (present_logs (since ++ restart))
          (map (λ (octet : ℕ). here) octets) ih (each octets)
      go false ih = ih
  octets_behind (Came t (LineIn octets) ∷ since) = octets_behind since
  octets_behind (Came t Ticked ∷ since) = octets_behind since
  octets_behind (Came t (WallIs number) ∷ since) = octets_behind since
  octets_behind (Went t (LineOut octets) ∷ since) = octets_behind since
  octets_behind (Went t (TcpOut octets) ∷ since) = octets_behind since
  octets_behind (Went t (GapOut station session) ∷ since) = octets_behind since
  octets_behind (Went t (Closed cause) ∷ since) = go (ends cause) (octets_behind since)
    where
      go : (b : Bool) → AllByRecursion (IsBehind at older) (present_logs (since ++ restart))
          → AllByRecursion (IsBehind at older)
          (if b then [] else present_logs (since ++ restart))
      go true ih = tt
      go false ih = ih

  -- so did each ASDU
  pub came_behind : (since : Log) (c : Course) → HasTakenAll (present (since ++ restart)) c.talk
      → AllByRecursion (λ (x : Arrival). IsBehind at older x.log)
      (open_arrivals (since ++ restart) c)
  came_behind since c all =
      let log : Log = since ++ restart in
      let frames : List Apdu = came_frames c.talk in
      all_arrived (IsBehind at older) frames (present_logs log) (omega (
        arith,
        logs_as_octets log,
        ap (λ (l : List ℕ). length l) all.joined,
        length-append (spelled frames) all.rest,
      )) (octets_behind since)

  -- until the next opening no connection is open
  pub shut_behind : (since : Log) → OpensNone since → (present (since ++ restart)).is_open ≡ false
  shut_behind [] none = refl
  shut_behind (Came t Opened ∷ since) none = let no : true ≡ false = none.0 in cc
  shut_behind (Came t CutOff ∷ since) none = refl
  shut_behind (Came t Restarted ∷ since) none = refl
  shut_behind (Came t (TcpIn octets) ∷ since) none =
      go (present (since ++ restart)) (shut_behind since none.1)
    where
      go : (c : Channel) → c.is_open ≡ false → (receiving c octets).is_open ≡ false
      go c shut = subst (λ (b : Bool). (if b then record {
        is_open = true;
        sent = c.sent;
        received = c.received ++ octets;
        lacked_place = c.lacked_place;
      } else c).is_open ≡ false) (sym shut) shut
  shut_behind (Came t (LineIn octets) ∷ since) none = shut_behind since none.1
  shut_behind (Came t Ticked ∷ since) none = shut_behind since none.1
  shut_behind (Came t (WallIs number) ∷ since) none = shut_behind since none.1
  shut_behind (Went t (LineOut octets) ∷ since) none = shut_behind since none.1
  shut_behind (Went t (TcpOut octets) ∷ since) none = shut_behind since none.1
  shut_behind (Went t (GapOut station session) ∷ since) none = shut_behind since none.1
  shut_behind (Went t (Closed cause) ∷ since) none = go (ends cause) (shut_behind since none.1)
    where
      go : (b : Bool) → (present (since ++ restart)).is_open ≡ false
          → (if b then no_channel else present (since ++ restart)).is_open ≡ false
      go true shut = refl
      go false shut = shut
