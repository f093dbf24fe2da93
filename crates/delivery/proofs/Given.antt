-- The commands that were sent are some of those that were forwarded, in order, each at most once.
use Rattle.std.specs.Prelude.{◌==◌, option_map, slice_get}
use Rattle.std.specs.Option.{option_map_or}
use Rattle.std.proofs.Common.{◌≡◌, ℕ, zero, suc, ◌<◌, ◌≤◌, Bool, true, false, List, [], ◌∷◌, ◌++◌}
use Rattle.std.proofs.Common.{map, take, drop, length, Option, Some, None, refl, ap, sym, subst}
use Rattle.std.proofs.Common.{◌∙◌, append_assoc, length-append, arith, if◌then◌else◌}
use Rattle.std.specs.List.{AllByRecursion}
use Rattle.std.proofs.lemmas.List.{append-nil, map-append, take-append-le}
use Rattle.std.proofs.lemmas.Bool.{eqb-true}
use Rattle.command.specs.History.{History, Judged, Sent, Accepted, Refused, GivenUp, Mirrored}
use Rattle.command.specs.History.{Offered, Answered, Ended, first, is_for, forwarded_to, sent_count}
use Rattle.command.specs.History.{next_for, next_octets, line_octets, ForwardsCommands}
use Rattle.command.specs.History.{GivesOwnAnswers}
use Rattle.gateway.specs.Reports.{Setup}
use Rattle.delivery.specs.Merges.{IsSublist}
use Rattle.command.specs.Standard.{cause_of_fault}
use Rattle.delivery.specs.Commands.{sent_to, judged_in, forwarded_in}
use Rattle.delivery.proofs.Sublists.{sub_all, sub_of_sub, sub_append, sub_take, sub_prefix}
use Rattle.delivery.proofs.Sublists.{all_append}

-- an ASDU, with what the wall clock showed when it came
abbrev pub Timed : Type 0
Timed = List ℕ × Option ℕ

-- a command as the history has it on the line
abbrev pub sent_form : Setup → ℕ → List ℕ → List ℕ
sent_form p k asdu = option_map_or (line_octets p.sizes asdu) (slice_get p.stations k) []

abbrev asdus : List Timed → List (List ℕ)
asdus xs = map (λ (x : Timed). x.0) xs

-- the first element behind the first n, with this ASDU
record IsNext (n : ℕ) (xs : List Timed) (asdu : List ℕ) : Type 0 where
  next : Timed
  it : next.0 ≡ asdu
  less : n < length xs
  more : take (suc n) xs ≡ take n xs ++ next ∷ []

next_of : (n : ℕ) (xs : List Timed) (asdu : List ℕ) → first (drop n (asdus xs)) ≡ Some asdu
    → IsNext n xs asdu
next_of zero [] asdu e = cc
next_of zero (y ∷ ys) asdu e = let same : y.0 ≡ asdu = cc in
    record { next = y; it = same; less = omega arith; more = refl }
next_of (suc n) [] asdu e = cc
next_of (suc n) (y ∷ ys) asdu e =
    let rest : IsNext n ys asdu = next_of n ys asdu e in
    record {
      next = rest.next;
      it = rest.it;
      less = omega (arith, rest.less);
      more =
          ap (λ (l : List Timed). y ∷ l) rest.more;
    }

module _ (p : Setup) (k : ℕ) where
  -- those forwarded on the open connection
  abbrev come : History → List Timed
  come [] = []
  come (Judged now wall xs None ∷ h) = if is_for p.sizes p.stations p.select_ms p.max_age_ms k xs
      then come h
      ++ (xs, wall) ∷ [] else come h
  come (Ended ∷ h) = []
  come (_ ∷ h) = come h

  come_asdus : (h : History) → asdus (come h) ≡ forwarded_to p.sizes p.stations p.select_ms
      p.max_age_ms k h
  come_asdus [] = refl
  come_asdus (Judged now wall xs None ∷ h) =
      go (is_for p.sizes p.stations p.select_ms p.max_age_ms k xs) (come_asdus h)
    where
      go : (b : Bool) → asdus (come h) ≡ forwarded_to p.sizes p.stations p.select_ms p.max_age_ms k
          h →
          asdus (if b then come h ++ (xs, wall) ∷ [] else come h)
          ≡ (if b then forwarded_to p.sizes p.stations p.select_ms p.max_age_ms k h ++ xs
          ∷ [] else forwarded_to p.sizes p.stations p.select_ms p.max_age_ms k h)
      go true ih = map-append (λ (x : Timed). x.0) (come h) ((xs, wall) ∷ [])
          ∙ ap (λ (l : List (List ℕ)). l ++ xs ∷ []) ih
      go false ih = ih
  come_asdus (Judged now wall xs (Some a) ∷ h) = come_asdus h
  come_asdus (Sent j octets ∷ h) = come_asdus h
  come_asdus (Accepted j ∷ h) = come_asdus h
  come_asdus (Refused j a ∷ h) = come_asdus h
  come_asdus (GivenUp j b ∷ h) = come_asdus h
  come_asdus (Mirrored now v ∷ h) = come_asdus h
  come_asdus (Offered octets b ∷ h) = come_asdus h
  come_asdus (Answered octets ∷ h) = come_asdus h
  come_asdus (Ended ∷ h) = refl

  abbrev went : History → ℕ
  went h = sent_count p.sizes p.stations p.select_ms p.max_age_ms k h

  abbrev octets_of : Timed → List ℕ
  octets_of x = sent_form p k x.0

  -- The commands sent on the connections before are some of those forwarded on them; on the open
  -- one they are
  -- the first ones.
  record Sendings (h : History) : Type 0 where
    given : List Timed
    forwarded : List Timed
    part : IsSublist given forwarded
    whole : forwarded_in p k h ≡ forwarded ++ come h
    enough : went h ≤ length (come h)
    octets : sent_to k h ≡ map octets_of (given ++ take (went h) (come h))

  -- an entry that isn't spoken of
  same_sendings : (h new : History) → forwarded_in p k new ≡ forwarded_in p k h → come new ≡ come h
      → went new ≡ went h
      → sent_to k new ≡ sent_to k h → Sendings h → Sendings new
  same_sendings h new all came gone sent s = record {
    given = s.given;
    forwarded = s.forwarded;
    part = s.part;
    whole = all ∙ s.whole ∙ ap (λ (l : List Timed). s.forwarded ++ l) (sym came);
    enough = omega (arith, s.enough, gone, ap (λ (l : List Timed). length l) came);
    octets = sent ∙ s.octets ∙ ap (λ (n : ℕ). map octets_of (s.given ++ take n (come h))) (sym gone)
        ∙ ap (λ (l : List Timed). map octets_of (s.given ++ take (went new) l)) (sym came);
  }

  more_forwarded : (b : Bool) (now : ℕ) (wall : Option ℕ) (xs : List ℕ) (h : History)
      → is_for p.sizes p.stations p.select_ms p.max_age_ms k xs ≡ b → Sendings h
      → Sendings (Judged now wall xs None ∷ h)
  more_forwarded true now wall xs h is s =
      let all : forwarded_in p k (Judged now wall xs None ∷ h) ≡ forwarded_in p k h ++ (xs, wall)
      ∷ [] =
      ap (λ (b : Bool). if b then forwarded_in p k h ++ (xs, wall) ∷ [] else forwarded_in p k h)
      is in
      let came : come (Judged now wall xs None ∷ h) ≡ come h ++ (xs, wall) ∷ [] =
      ap (λ (b : Bool). if b then come h ++ (xs, wall) ∷ [] else come h) is in
      record {
        given = s.given;
        forwarded = s.forwarded;
        part = s.part;
        whole = all ∙ ap (λ (l : List Timed). l ++ (xs, wall) ∷ []) s.whole
            ∙ append_assoc s.forwarded (come h) ((xs, wall) ∷ [])
            ∙ ap (λ (l : List Timed). s.forwarded ++ l) (sym came);
        enough = omega (
          arith,
          s.enough,
          ap (λ (l : List Timed). length l) came,
          length-append (come h) ((xs, wall) ∷ []),
        );
        octets = s.octets ∙ ap (λ (l : List Timed). map octets_of (s.given ++ l))
            (sym (take-append-le (went h) (come h) ((xs, wall) ∷ []) s.enough))
            ∙ ap (λ (l : List Timed). map octets_of (s.given ++ take (went h) l)) (sym came);
      }
  more_forwarded false now wall xs h is s = same_sendings h (Judged now wall xs None ∷ h)
      (ap (λ (b : Bool). if b then forwarded_in p k h ++ (xs, wall) ∷ [] else forwarded_in p k h)
      is)
      (ap (λ (b : Bool). if b then come h ++ (xs, wall) ∷ [] else come h) is) refl refl s

  next_sent : (octets : List ℕ) (h : History)
      → next_octets p.sizes p.stations p.select_ms p.max_age_ms k h
      ≡ Some octets → Sendings h → (new : History) →
      forwarded_in p k new ≡ forwarded_in p k h → come new ≡ come h → went new ≡ suc (went h)
      → sent_to k new ≡ sent_to k h ++ octets ∷ [] → Sendings new
  next_sent octets h is s new all came gone sent =
      go (next_for p.sizes p.stations p.select_ms p.max_age_ms k h) refl is
    where
      go : (o : Option (List ℕ)) → next_for p.sizes p.stations p.select_ms p.max_age_ms k h ≡ o
          → option_map (λ (xs : List ℕ). sent_form p k xs) o ≡ Some octets → Sendings new
      go None e f = cc
      go (Some xs) e f =
          let next : IsNext (went h) (come h) xs = next_of (went h) (come h) xs
          (ap (λ (l : List (List ℕ)). first (drop (went h) l)) (come_asdus h) ∙ e) in
          let line : sent_form p k xs ≡ octets = cc in
          let same : octets_of next.next ≡ octets = ap (λ (x : List ℕ). sent_form p k x) next.it
          ∙ line in
          record {
            given = s.given;
            forwarded = s.forwarded;
            part = s.part;
            whole = all ∙ s.whole ∙ ap (λ (l : List Timed). s.forwarded ++ l) (sym came);
            enough = omega (arith, next.less, gone, ap (λ (l : List Timed). length l) came);
            octets = sent ∙ ap (λ (l : List (List ℕ)). l ++ octets ∷ []) s.octets
                ∙ ap (λ (x : List ℕ). map octets_of (s.given ++ take (went h) (come h)) ++ x ∷ [])
                (sym same)
                ∙ sym (map-append octets_of (s.given ++ take (went h) (come h)) (next.next ∷ []))
                ∙ ap (λ (l : List Timed). map octets_of l)
                (append_assoc s.given (take (went h) (come h)) (next.next ∷ []))
                ∙ ap (λ (l : List Timed). map octets_of (s.given ++ l)) (sym next.more)
                ∙ ap (λ (n : ℕ). map octets_of (s.given ++ take n (come h))) (sym gone)
                ∙ ap (λ (l : List Timed). map octets_of (s.given ++ take (went new) l)) (sym came);
          }

  one_sent : (b : Bool) (j : ℕ) (octets : List ℕ) (h : History) → (k == j) ≡ b
      → next_octets p.sizes p.stations p.select_ms p.max_age_ms j h ≡ Some octets → Sendings h
      → Sendings (Sent j octets ∷ h)
  one_sent true j octets h is next s =
      let here : next_octets p.sizes p.stations p.select_ms p.max_age_ms k h ≡ Some octets =
      ap (λ (n : ℕ). next_octets p.sizes p.stations p.select_ms p.max_age_ms n h) (eqb-true k j is)
      ∙ next in
      next_sent octets h here s (Sent j octets ∷ h) refl refl
      (ap (λ (b : Bool). if b then suc (went h) else went h) is)
      (ap (λ (b : Bool). if b then sent_to k h ++ octets ∷ [] else sent_to k h) is)
  one_sent false j octets h is next s = same_sendings h (Sent j octets ∷ h) refl refl
      (ap (λ (b : Bool). if b then suc (went h) else went h) is)
      (ap (λ (b : Bool). if b then sent_to k h ++ octets ∷ [] else sent_to k h) is) s

  ended : (h : History) → Sendings h → Sendings (Ended ∷ h)
  ended h s = record {
    given = s.given ++ take (went h) (come h);
    forwarded = s.forwarded ++ come h;
    part = sub_append s.given s.forwarded (take (went h) (come h)) (come h) s.part
        (sub_take (went h) (come h));
    whole = s.whole ∙ sym (append-nil (s.forwarded ++ come h));
    enough = omega arith;
    octets = s.octets
        ∙ ap (λ (l : List Timed). map octets_of l)
        (sym (append-nil (s.given ++ take (went h) (come h))));
  }

  sendings : (h : History) → ForwardsCommands p.sizes p.stations p.select_ms p.max_age_ms h
      → Sendings h
  sendings [] f = record {
    given = [];
    forwarded = [];
    part = tt;
    whole = refl;
    enough =
        omega arith;
    octets = refl;
  }
  sendings (Judged now wall xs None ∷ h) f = more_forwarded
      (is_for p.sizes p.stations p.select_ms p.max_age_ms k xs) now wall xs h refl (sendings h f)
  sendings (Judged now wall xs (Some a) ∷ h) f = same_sendings h (Judged now wall xs (Some a) ∷ h)
      refl refl refl refl
      (sendings h f)
  sendings (Sent j octets ∷ h) f = one_sent (k == j) j octets h refl f.0 (sendings h f.1)
  sendings (Accepted j ∷ h) f = same_sendings h (Accepted j ∷ h) refl refl refl refl (sendings h f)
  sendings (Refused j a ∷ h) f = same_sendings h (Refused j a ∷ h) refl refl refl refl
      (sendings h f)
  sendings (GivenUp j b ∷ h) f = same_sendings h (GivenUp j b ∷ h) refl refl refl refl
      (sendings h f)
  sendings (Mirrored now v ∷ h) f = same_sendings h (Mirrored now v ∷ h) refl refl refl refl
      (sendings h f)
  sendings (Offered octets b ∷ h) f = same_sendings h (Offered octets b ∷ h) refl refl refl refl
      (sendings h f)
  sendings (Answered octets ∷ h) f = same_sendings h (Answered octets ∷ h) refl refl refl refl
      (sendings h f)
  sendings (Ended ∷ h) f = ended h (sendings h f)

  -- Those forwarded are some of those judged, and are commands for the station.

  forwarded_some : (h : History) → IsSublist (forwarded_in p k h) (judged_in h)
  forwarded_some [] = tt
  forwarded_some (Judged now wall xs None ∷ h) =
      go (is_for p.sizes p.stations p.select_ms p.max_age_ms k xs)
      (forwarded_some h)
    where
      go : (b : Bool) → IsSublist (forwarded_in p k h) (judged_in h)
          → IsSublist (if b then forwarded_in p k h ++ (xs, wall) ∷ [] else forwarded_in p k h)
          (judged_in h
          ++ (xs, wall) ∷ [])
      go true ih = sub_append (forwarded_in p k h) (judged_in h) ((xs, wall) ∷ []) ((xs, wall) ∷ [])
          ih
          (sub_all ((xs, wall) ∷ []))
      go false ih = sub_of_sub (forwarded_in p k h) (judged_in h) (judged_in h ++ (xs, wall) ∷ [])
          ih
          (sub_prefix (judged_in h) ((xs, wall) ∷ []))
  forwarded_some (Judged now wall xs (Some a) ∷ h) = sub_of_sub (forwarded_in p k h) (judged_in h)
      (judged_in h
      ++ (xs, wall) ∷ []) (forwarded_some h) (sub_prefix (judged_in h) ((xs, wall) ∷ []))
  forwarded_some (Sent j octets ∷ h) = forwarded_some h
  forwarded_some (Accepted j ∷ h) = forwarded_some h
  forwarded_some (Refused j a ∷ h) = forwarded_some h
  forwarded_some (GivenUp j b ∷ h) = forwarded_some h
  forwarded_some (Mirrored now v ∷ h) = forwarded_some h
  forwarded_some (Offered octets b ∷ h) = forwarded_some h
  forwarded_some (Answered octets ∷ h) = forwarded_some h
  forwarded_some (Ended ∷ h) = forwarded_some h

  -- for the station, and with nothing wrong
  pub record IsForwarded (x : Timed) : Type 0 where
    pub addressed : is_for p.sizes p.stations p.select_ms p.max_age_ms k x.0 ≡ true
    pub faultless : cause_of_fault p.sizes p.stations p.max_age_ms x.1 x.0 ≡ None

  abbrev AreCommands : List Timed → Type 0
  AreCommands xs = AllByRecursion (λ (x : Timed). IsForwarded x) xs

  forwarded_each : (h : History) → GivesOwnAnswers p.sizes p.stations p.select_ms p.max_age_ms h
      → AreCommands (forwarded_in p k h)
  forwarded_each [] g = tt
  forwarded_each (Judged now wall xs None ∷ h) g =
      go (is_for p.sizes p.stations p.select_ms p.max_age_ms k xs) refl
      (forwarded_each h g.1)
    where
      go : (b : Bool) → is_for p.sizes p.stations p.select_ms p.max_age_ms k xs ≡ b
          → AreCommands (forwarded_in p k h)
          → AreCommands (if b then forwarded_in p k h ++ (xs, wall) ∷ [] else forwarded_in p k h)
      go true is ih = all_append (λ (x : Timed). IsForwarded x) (forwarded_in p k h)
          ((xs, wall) ∷ []) ih
          (record { addressed = is; faultless = g.0 }, tt)
      go false is ih = ih
  forwarded_each (Judged now wall xs (Some a) ∷ h) g = forwarded_each h g.1
  forwarded_each (Sent j octets ∷ h) g = forwarded_each h g
  forwarded_each (Accepted j ∷ h) g = forwarded_each h g
  forwarded_each (Refused j a ∷ h) g = forwarded_each h g.1
  forwarded_each (GivenUp j b ∷ h) g = forwarded_each h g.1
  forwarded_each (Mirrored now v ∷ h) g = forwarded_each h g
  forwarded_each (Offered octets b ∷ h) g = forwarded_each h g
  forwarded_each (Answered octets ∷ h) g = forwarded_each h g
  forwarded_each (Ended ∷ h) g = forwarded_each h g

  -- the commands sent, as they came
  pub record AreGiven (h : History) : Type 0 where
    pub given : List Timed
    pub some : IsSublist given (forwarded_in p k h)
    pub is : sent_to k h ≡ map octets_of given

  pub sent_are_given : (h : History) → ForwardsCommands p.sizes p.stations p.select_ms p.max_age_ms
      h → AreGiven h
  sent_are_given h f =
      let s : Sendings h = sendings h f in
      record {
        given = s.given ++ take (went h) (come h);
        some = subst (IsSublist (s.given ++ take (went h) (come h))) (sym s.whole)
            (sub_append s.given s.forwarded (take (went h) (come h)) (come h) s.part
            (sub_take (went h) (come h)));
        is = s.octets;
      }

  pub given_judged : (h : History) → IsSublist (forwarded_in p k h) (judged_in h)
  given_judged h = forwarded_some h

  pub given_commands : (h : History) → GivesOwnAnswers p.sizes p.stations p.select_ms p.max_age_ms h
      → AllByRecursion (λ (x : Timed). IsForwarded x) (forwarded_in p k h)
  given_commands h g = forwarded_each h g
