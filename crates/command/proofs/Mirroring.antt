-- What mirrors keep.
use Rattle.std.proofs.Common.{◌≡◌, ℕ, ◌-◌, ◌&&◌, Bool, true, false, List, [], ◌∷◌, refl, sym, subst}
use Rattle.std.specs.Prelude.{Option, Some, None, if◌then◌else◌, nat_lt}
use Rattle.std.specs.List.{filter_map, list_any, AllByRecursion}
use Rattle.asdu.specs.Asdu.{AsduValue, Info}
use Rattle.asdu.specs.declared.sizes.Sizes.{Sizes}
use Rattle.command.specs.declared.content.CommandElement.{CommandElement}
use Rattle.command.specs.declared.station.StationInfo.{StationInfo}
use Rattle.command.specs.declared.selection.Selection.{Selection}
use Rattle.command.specs.declared.selection.SelectStage.{SelectStage}
use Rattle.command.specs.declared.selection.SelectStage.TheVariants as stage
use Rattle.command.specs.declared.selection.Sign.TheVariants as sign
use Rattle.command.specs.Selection.{advanced, target_of, same_target, same_element, is_accepted}
use Rattle.command.specs.Selection.{with_stage}
use Rattle.command.specs.State as state
use Rattle.command.specs.State.{State}
use Rattle.command.specs.Mirrors as mirrors
use Rattle.command.specs.Mirrors.{is_con, target_at, element_of}
use Rattle.command.specs.History.{Mirrored, History}
use Rattle.command.proofs.Machine.{Select, negates, confirms}
use Rattle.command.proofs.Keeps.{Keeps, Same}
use Rattle.command.proofs.Tied.{AtStage, station_at, select_of, Perhaps, all_kept, all_mapped, Tied}
use Rattle.command.proofs.Tied.{at}

pub and_swap : (m a x : Bool) → (m && a && x) ≡ (m && x && a)
and_swap true true true = refl
and_swap true true false = refl
and_swap true false true = refl
and_swap true false false = refl
and_swap false a x = refl

and_off : (a b : Bool) → a ≡ false → (a && b) ≡ false
and_off a b h = rw h refl

and_off_right : (a b : Bool) → b ≡ false → (a && b) ≡ false
and_off_right true b h = h
and_off_right false b h = refl

-- each selection that is left is of another target than these objects
abbrev pub is_named : AsduValue → List Info → Selection → Bool
is_named v is z = list_any (λ i. same_target (target_of z.command) (target_at v i)) is

abbrev pub left : ℕ → AsduValue → List Info → List Selection → List Selection
left ms v [] zs = zs
left ms v (i ∷ is) zs = left ms v is (filter_map (advanced ms (sign.Over (target_at v i))) zs)

pub left_is : (v : AsduValue) (is : List Info) (s : State)
    → mirrors.all_over v is s ≡ record s { selections = left s.select_ms v is s.selections }
left_is v [] s = refl
left_is v (i ∷ is) s = left_is v is (state.heeded (sign.Over (target_at v i)) s)

other : (P : Selection → Type 0) (v : AsduValue) (i : Info) (z : Selection) (b : Bool)
    → same_target (target_of z.command) (target_at v i) ≡ b → P z →
    Perhaps (λ y. P y × (same_target (target_of y.command) (target_at v i) ≡ false)) (if b then None
    else Some z)
other P v i z true e p = tt
other P v i z false e p = (p, e)

left_unnamed : (ms : ℕ) (v : AsduValue) (is : List Info) (P : Selection
    → Type 0) (zs : List Selection)
    → AllByRecursion P zs → AllByRecursion (λ z. P z × (is_named v is z ≡ false)) (left ms v is zs)
left_unnamed ms v [] P zs a = all_mapped P _ (λ z p. (p, refl)) zs a
left_unnamed ms v (i ∷ is) P zs a =
    all_mapped (λ z. (P z × (same_target (target_of z.command) (target_at v i) ≡ false))
    × (is_named v is z ≡ false))
    (λ z. P z × (is_named v (i ∷ is) z ≡ false))
    (λ z p. (p.0.0, rw p.0.1 p.1))
    (left ms v is (filter_map (advanced ms (sign.Over (target_at v i))) zs))
    (left_unnamed ms v is (λ z. P z × (same_target (target_of z.command) (target_at v i) ≡ false))
    (filter_map (advanced ms (sign.Over (target_at v i))) zs)
    (all_kept (advanced ms (sign.Over (target_at v i))) P (λ z. P z
    × (same_target (target_of z.command) (target_at v i) ≡ false))
    (λ z p. other P v i z (same_target (target_of z.command) (target_at v i)) refl p) zs a))

module _ (sizes : Sizes) (stations : List StationInfo) (select_ms max_age_ms : ℕ) where
  -- nothing is confirmed
  stage_stays : (h : History) (now : ℕ) (v : AsduValue) (k : ℕ) (c : Select) → confirms c.command v
      ≡ false
      → (st : SelectStage) → AtStage sizes stations select_ms max_age_ms st k c h
      → AtStage sizes stations select_ms max_age_ms st k c (Mirrored now v ∷ h)
  stage_stays h now v k c e (stage.Queued n) a = a
  stage_stays h now v k c e stage.Sent a = a
  stage_stays h now v k c e stage.Accepted a = a
  stage_stays h now v k c e (stage.Live since) a = (a.0, rw e a.1)

  stays : (h : History) (now : ℕ) (v : AsduValue) (z : Selection) → negates (target_of z.command) v
      ≡ false
      → confirms z.command v ≡ false → Tied sizes stations select_ms max_age_ms h z
      → Tied sizes stations select_ms max_age_ms (Mirrored now v ∷ h) z
  stays h now v z n e t = record {
    place = t.place;
    station = t.station;
    stands = rw n t.stands;
    at_stage =
        stage_stays h now v (station_at sizes stations select_ms max_age_ms z.command)
        (select_of sizes stations select_ms max_age_ms z t.place) e z.stage t.at_stage;
  }

  -- a con of one object; m: it names the select, x: it comes in time
  con_at : (h : History) (now : ℕ) (v : AsduValue) (z : Selection) → negates (target_of z.command) v
      ≡ false
      → (t : Tied sizes stations select_ms max_age_ms h z) → (st : SelectStage)
      → AtStage sizes stations select_ms max_age_ms st
      (station_at sizes stations select_ms max_age_ms z.command)
      (select_of sizes stations select_ms max_age_ms z t.place) h →
      (b : Bool) → (confirms z.command v && nat_lt (now - z.came) select_ms) ≡ b →
      Perhaps (Tied sizes stations select_ms max_age_ms (Mirrored now v ∷ h)) (if b
      && is_accepted st then Some (at sizes stations select_ms max_age_ms z (stage.Live now))
      else Some
      (at sizes stations select_ms max_age_ms z st))
  con_at h now v z n t (stage.Queued q) a true e = record {
    place = t.place;
    station = t.station;
    stands =
        rw n t.stands;
    at_stage = a;
  }
  con_at h now v z n t stage.Sent a true e = record {
    place = t.place;
    station = t.station;
    stands =
        rw n t.stands;
    at_stage = a;
  }
  con_at h now v z n t stage.Accepted a true e = record {
    place = t.place;
    station = t.station;
    stands =
        rw n t.stands;
    at_stage = (a, rw (e, a) refl);
  }
  con_at h now v z n t (stage.Live since) a true e = record {
    place = t.place;
    station = t.station;
    stands =
        rw n t.stands;
    at_stage = (a.0, rw (e, a.0) refl);
  }
  con_at h now v z n t (stage.Queued q) a false e = record {
    place = t.place;
    station = t.station;
    stands =
        rw n t.stands;
    at_stage = a;
  }
  con_at h now v z n t stage.Sent a false e = record {
    place = t.place;
    station = t.station;
    stands =
        rw n t.stands;
    at_stage = a;
  }
  con_at h now v z n t stage.Accepted a false e = record {
    place = t.place;
    station = t.station;
    stands =
        rw n t.stands;
    at_stage = a;
  }
  con_at h now v z n t (stage.Live since) a false e = record {
    place = t.place;
    station = t.station;
    stands =
        rw n t.stands;
    at_stage = (a.0, rw e a.1);
  }

  con : (h : History) (now : ℕ) (v : AsduValue) (i : Info) (f : CommandElement)
      → is_con true v.cause
      ≡ false
      → is_con false v.cause ≡ true → v.infos ≡ i ∷ [] → element_of i.element ≡ Some f
      → (z : Selection)
      → Tied sizes stations select_ms max_age_ms h z →
      Perhaps (Tied sizes stations select_ms max_age_ms (Mirrored now v ∷ h))
      (advanced select_ms (sign.Con (target_at v i) f now) z)
  con h now v i f n p one e z t =
      let m : Bool = same_target (target_of z.command) (target_at v i)
      && same_element z.command.element f in
      let off : negates (target_of z.command) v ≡ false = and_off _ _ n in
      let is : (confirms z.command v && nat_lt (now - z.came) select_ms)
      ≡ (m && nat_lt (now - z.came) select_ms) =
      rw (n, p, one, e) refl in
      subst (λ b. Perhaps (Tied sizes stations select_ms max_age_ms (Mirrored now v ∷ h))
      (if b then Some (with_stage (stage.Live now) z) else Some z))
      (sym (and_swap m (is_accepted z.stage) (nat_lt (now - z.came) select_ms)))
      (con_at h now v z off t z.stage t.at_stage (m && nat_lt (now - z.came) select_ms) is)

module _ (s : State) (h : History) (v : AsduValue) (now : ℕ)
    (ks : Keeps s.sizes s.stations s.select_ms s.max_age_ms s.waiting s.lines s.selections s.answers
    h) where
  abbrev Goal : State → Type 0
  Goal t = Same s t × Keeps s.sizes s.stations s.select_ms s.max_age_ms t.waiting t.lines
      t.selections t.answers
      (Mirrored now v ∷ h)

  abbrev with_selections : List Selection → State
  with_selections zs = record s { selections = zs }

  made : (zs : List Selection)
      → AllByRecursion (Tied s.sizes s.stations s.select_ms s.max_age_ms (Mirrored now v ∷ h)) zs
      → Goal (with_selections zs)
  made zs a = (
    record { sizes = refl; stations = refl; select_ms = refl; max_age_ms = refl },
    record {
      queue = record {
        count = ks.queue.count;
        in_turn = ks.queue.in_turn;
        shaped = ks.queue.shaped;
        sends =
            ks.queue.sends;
      };
      on_lines = record {
        number = ks.on_lines.number;
        held = ks.on_lines.held;
        used =
            ks.on_lines.used;
      };
      own = record { in_turn = ks.own.in_turn; kept = ks.own.kept };
      tied = a;
      executes = ks.executes;
      rightly = ks.rightly;
    },
  )

  unchanged : ((z : Selection) → negates (target_of z.command) v ≡ false)
      → ((z : Selection) → confirms z.command v ≡ false) → Goal s
  unchanged n e = made s.selections
      (all_mapped _ _ (λ z t. stays s.sizes s.stations s.select_ms s.max_age_ms h now v z (n z)
      (e z) t) s.selections
      ks.tied)

  on_negative : is_con true v.cause ≡ true → Goal (mirrors.all_over v v.infos s)
  on_negative e =
      subst Goal (sym (left_is v v.infos s)) (made (left s.select_ms v v.infos s.selections)
      (all_mapped _ _ (λ z p. stays s.sizes s.stations s.select_ms s.max_age_ms h now v z
      (and_off_right (is_con true v.cause) (is_named v v.infos z) p.1) (rw e refl) p.0) _
      (left_unnamed s.select_ms v v.infos (Tied s.sizes s.stations s.select_ms s.max_age_ms h)
      s.selections
      ks.tied)))

  on_element : is_con true v.cause ≡ false → is_con false v.cause ≡ true → (i : Info)
      → v.infos ≡ i ∷ []
      → (f : Option CommandElement) → element_of i.element ≡ f
      → Goal (mirrors.confirmed f (target_at v i) now s)
  on_element n p i one None e = unchanged (λ z. and_off _ _ n)
      (λ z. rw (n, p, one, e) (and_off_right (same_target (target_of z.command) (target_at v i))
      false refl))
  on_element n p i one (Some f) e =
      made (filter_map (advanced s.select_ms (sign.Con (target_at v i) f now)) s.selections)
      (all_kept (advanced s.select_ms (sign.Con (target_at v i) f now))
      (Tied s.sizes s.stations s.select_ms s.max_age_ms h) _
      (con s.sizes s.stations s.select_ms s.max_age_ms h now v i f n p one e) s.selections ks.tied)

  on_positive : is_con true v.cause ≡ false → is_con false v.cause ≡ true → (is : List Info)
      → v.infos ≡ is
      → Goal (mirrors.one_confirmed v is now s)
  on_positive n p [] e = unchanged (λ z. and_off _ _ n) (λ z. rw (n, p, e) refl)
  on_positive n p (i ∷ []) e = on_element n p i e (element_of i.element) refl
  on_positive n p (i ∷ j ∷ is) e = unchanged (λ z. and_off _ _ n) (λ z. rw (n, p, e) refl)

  not_negative : is_con true v.cause ≡ false → (b : Bool) → is_con false v.cause ≡ b
      → Goal (if b then mirrors.one_confirmed v v.infos now s else s)
  not_negative n true p = on_positive n p v.infos refl
  not_negative n false p = unchanged (λ z. and_off _ _ n) (λ z. rw (n, p) refl)

  by_sign : (b : Bool) → is_con true v.cause ≡ b → Goal
      (if b then mirrors.all_over v v.infos s
      else (if is_con false v.cause then mirrors.one_confirmed v v.infos now s
      else s))
  by_sign true e = on_negative e
  by_sign false e = not_negative e (is_con false v.cause) refl

  pub mirroring : Goal (mirrors.mirrored v now s)
  mirroring = by_sign (is_con true v.cause) refl
