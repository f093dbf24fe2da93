-- A selected execute passes, in every list of calls.
use Rattle.std.proofs.Common.{◌≡◌, ℕ, ◌-◌, ◌≤◌, ◌<◌, ◌&&◌, Bool, true, false, not, List, []}
use Rattle.std.proofs.Common.{◌∷◌, ◌++◌, refl, sym, subst, ap, ◌∙◌, arith}
use Rattle.std.specs.Prelude.{◌==◌, Option, Some, None, if◌then◌else◌, is_none, nat_lt}
use Rattle.std.specs.List.{filter_map, list_any}
use Rattle.std.proofs.lemmas.Bool.{and_parts, or_parts}
use Rattle.asdu.specs.Asdu.{AsduValue, Info}
use Rattle.asdu.specs.declared.sizes.Sizes.{Sizes}
use Rattle.command.specs.declared.content.Command.{Command}
use Rattle.command.specs.declared.content.Target.{Target}
use Rattle.command.specs.declared.content.CommandElement.{CommandElement}
use Rattle.command.specs.declared.station.StationInfo.{StationInfo}
use Rattle.command.specs.declared.waiting.Waiting.{Waiting}
use Rattle.command.specs.declared.selection.Selection.{Selection}
use Rattle.command.specs.declared.selection.SelectStage.{SelectStage}
use Rattle.command.specs.declared.selection.SelectStage.TheVariants as stage
use Rattle.command.specs.declared.selection.Sign.TheVariants as sign
use Rattle.command.specs.Octets.{answer, negative}
use Rattle.command.specs.Command.{command_at, is_execute, is_deactivation}
use Rattle.command.specs.Selection.{advanced, target_of, same_target, same_element, is_accepted}
use Rattle.command.specs.Selection.{lets_through}
use Rattle.command.specs.Stations.{is_guarded}
use Rattle.command.specs.State as state
use Rattle.command.specs.State.{State, oldest, line_of, has_answer_place, first_answer}
use Rattle.command.specs.Judging as judging
use Rattle.command.specs.Judging.{fault, makes_selection, ends_selection, lacks_selection}
use Rattle.command.specs.Mirrors as mirrors
use Rattle.command.specs.Mirrors.{is_con, target_at, element_of}
use Rattle.command.specs.History.{Judged, Sent, Mirrored, Offered, History}
use Rattle.command.proofs.Machine.{Select, standing, names, negates, confirms, IsSelected}
use Rattle.command.specs.Calls.{Call, Judge, PutOnLine, Accept, Busy, Lose, Mirror, Own, SendOwn}
use Rattle.command.specs.Calls.{Cut, Due, Run, after_call, run, after_sending, after_answer, latest}
use Rattle.command.specs.Calls.{moment_of, NeverFall}
use Rattle.command.proofs.Keeps.{KeepsQueue}
use Rattle.command.proofs.Judged.{same_target_itself}
use Rattle.command.proofs.Mirroring.{left, left_is, and_swap}
use Rattle.command.proofs.Runs.{run_holds, Holds, owned, given_back}
use Rattle.command.proofs.Passing.{Kept, kept_mapped, kept_append, kept_last, kept_passes, Found}
use Rattle.command.proofs.Passing.{Waits, Goes, Taken, Lives, Gone, Late, Past, at, After, none_by}
use Rattle.command.proofs.Passing.{waits_none, sent_at, accepted_found, refused_found, lost_found}
use Rattle.command.proofs.Passing.{timed_found, offered_found, answered_found, heeded}
use Rattle.command.proofs.Passing.{false_is_true, none_is_some, some_is, or_true, confirmed, home}
use Rattle.command.proofs.SelectsKept.{Stands, Full, no_select, and_turn, and_false_right, over}
use Rattle.command.proofs.SelectsKept.{kept_over, new_one, judged_full}

module _ (s : State) (h : History) (before : ℕ)
    (full : Full s.sizes s.stations s.select_ms s.max_age_ms h before
    s.selections) (q : KeepsQueue s.sizes s.stations s.select_ms s.max_age_ms s.waiting h) where
  abbrev pub Goal : History → ℕ → State → Type 0
  Goal g now t = Full s.sizes s.stations s.select_ms s.max_age_ms g now t.selections

  module _ (xs : List ℕ) (now : ℕ) (wall : Option ℕ) (later : before ≤ now) where
    abbrev pub Judgement : judging.Judgement → Type 0
    Judgement r = Full s.sizes s.stations s.select_ms s.max_age_ms (Judged now wall xs r.0 ∷ h) now
        r.1.selections

    abbrev c : Command
    c = command_at xs

    abbrev without : List Selection → List Selection
    without zs = over s.sizes s.stations s.select_ms s.max_age_ms c zs

    other_target : fault s.sizes s.stations s.max_age_ms wall xs ≡ None → (t : Target)
        → names s.sizes s.stations s.select_ms s.max_age_ms t wall xs ≡ false
        → same_target t (target_of c) ≡ false
    other_target f t n = subst (λ (o : Option ℕ). (is_none o && same_target t (target_of c))
        ≡ false) f n

    without_others : fault s.sizes s.stations s.max_age_ms wall xs ≡ None
        → (zs : List Selection) (y : Selection)
        → names s.sizes s.stations s.select_ms s.max_age_ms (target_of y.command) wall xs ≡ false
        → Kept y zs
        → Kept y (without zs)
    without_others f zs y n k = kept_over s.sizes s.stations s.select_ms s.max_age_ms c y zs
        (other_target f (target_of y.command) n) k

    -- what ends a selection leaves those of other targets
    abbrev left_by : Bool → List Selection
    left_by d = if d then without s.selections else s.selections

    left_others : fault s.sizes s.stations s.max_age_ms wall xs ≡ None → (d : Bool) (y : Selection)
        → names s.sizes s.stations s.select_ms s.max_age_ms (target_of y.command) wall xs ≡ false
        → Kept y s.selections
        → Kept y (left_by d)
    left_others f true y n k = without_others f s.selections y n k
    left_others f false y n k = k

    left_rest : (d : Bool) → ends_selection c ≡ d → ends_selection c ≡ false → (y : Selection)
        → Kept y s.selections
        → Kept y (left_by d)
    left_rest true e d y k = false_is_true (sym d ∙ e)
    left_rest false e d y k = k

    refuses : (cause : ℕ) (d : Bool) → fault s.sizes s.stations s.max_age_ms wall xs ≡ None
        → ends_selection c ≡ d
        → Full s.sizes s.stations s.select_ms s.max_age_ms
        (Judged now wall xs (Some (answer cause xs)) ∷ h) now
        (left_by d)
    refuses cause d f e =
        judged_full s.sizes s.stations s.select_ms s.max_age_ms h before now later s.selections wall
        xs full s.waiting
        q (Some (answer cause xs)) (left_by d)
        (left_others f d) (λ m. false_is_true m) (λ m g. left_rest d e g)

    forwards_new : (d : Bool) → fault s.sizes s.stations s.max_age_ms wall xs ≡ None
        → makes_selection s.stations c ≡ true → Full s.sizes s.stations s.select_ms s.max_age_ms
        (Judged now wall xs None ∷ h) now (without (left_by d)
        ++ new_one s.sizes s.stations s.select_ms s.max_age_ms xs now s.waiting ∷ [])
    forwards_new d f m =
        judged_full s.sizes s.stations s.select_ms s.max_age_ms h before now later s.selections wall
        xs full s.waiting
        q None (without (left_by d) ++ new_one s.sizes s.stations s.select_ms s.max_age_ms xs now
        s.waiting ∷ [])
        (λ y n k. kept_append y (without (left_by d))
        (new_one s.sizes s.stations s.select_ms s.max_age_ms xs now
        s.waiting ∷ []) (without_others f (left_by d) y n (left_others f d y n k)))
        (λ made. kept_last (new_one s.sizes s.stations s.select_ms s.max_age_ms xs now s.waiting)
        (without (left_by d)))
        (λ made g y k. false_is_true (sym made ∙ m))

    forwards_old : (d : Bool) → fault s.sizes s.stations s.max_age_ms wall xs ≡ None
        → makes_selection s.stations c ≡ false → ends_selection c ≡ d
        → Full s.sizes s.stations s.select_ms s.max_age_ms (Judged now wall xs None ∷ h) now
        (left_by d)
    forwards_old d f m e =
        judged_full s.sizes s.stations s.select_ms s.max_age_ms h before now later s.selections wall
        xs full s.waiting
        q None (left_by d)
        (left_others f d) (λ made. false_is_true (sym m ∙ made)) (λ made g. left_rest d e g)

    abbrev with_selections : List Selection → State
    with_selections zs = record s { selections = zs }

    on_makes : (d m : Bool) → fault s.sizes s.stations s.max_age_ms wall xs ≡ None
        → ends_selection c ≡ d
        → makes_selection s.stations c ≡ m →
        Judgement (
          None,
          judging.queued xs (if m then judging.selected c now (with_selections (left_by d))
              else with_selections
              (left_by d)),
        )
    on_makes d true f e m = forwards_new d f m
    on_makes d false f e m = forwards_old d f m e

    on_place : (d b : Bool) → fault s.sizes s.stations s.max_age_ms wall xs ≡ None
        → ends_selection c ≡ d →
        Judgement (if b then judging.refused (negative xs) xs (with_selections (left_by d)) else (
          None,
          judging.forwarded xs c now (with_selections (left_by d)),
        ))
    on_place d true f e = refuses (negative xs) d f e
    on_place d false f e = on_makes d (makes_selection s.stations c) f e refl

    on_ends : (d : Bool) → fault s.sizes s.stations s.max_age_ms wall xs ≡ None → ends_selection c
        ≡ d
        → Judgement (judging.placed xs c now (if d then judging.without_selection c s else s))
    on_ends true f e = on_place true _ f e
    on_ends false f e = on_place false _ f e

    lack_ends : lacks_selection c now s ≡ true → ends_selection c ≡ true
    lack_ends b =
        let p : _ = and_parts (is_guarded s.stations c && is_execute c)
        (not (list_any (lets_through s.select_ms c now) s.selections)) b in
        or_true (is_deactivation c) (is_execute c)
        (and_parts (is_guarded s.stations c) (is_execute c) p.0).1

    on_lack : (b : Bool) → fault s.sizes s.stations s.max_age_ms wall xs ≡ None
        → lacks_selection c now s ≡ b →
        Judgement (if b then judging.refused (negative xs) xs
        (judging.without_selection c s) else judging.placed xs c now
        (if ends_selection c then judging.without_selection c s else s))
    on_lack true f b = refuses (negative xs) true f (lack_ends b)
    on_lack false f b = on_ends (ends_selection c) f refl

    on_fault : (f : Option ℕ) → fault s.sizes s.stations s.max_age_ms wall xs ≡ f
        → Judgement (judging.by_fault f xs now s)
    on_fault (Some cause) f =
        judged_full s.sizes s.stations s.select_ms s.max_age_ms h before now later s.selections wall
        xs full s.waiting
        q (Some (answer cause xs)) s.selections (λ y n k. k) (λ m. false_is_true m) (λ m g y k. k)
    on_fault None f = on_lack (lacks_selection c now s) f refl

    pub judges : Judgement (judging.judged xs now wall s)
    judges = on_fault (fault s.sizes s.stations s.max_age_ms wall xs) refl

  -- ---- mirrors

  module _ (v : AsduValue) (now : ℕ) (later : before ≤ now) where
    abbrev Mirrors : State → Type 0
    Mirrors t = Full s.sizes s.stations s.select_ms s.max_age_ms (Mirrored now v ∷ h) now
        t.selections

    abbrev confirms_now : Select → Bool
    confirms_now z = confirms z.command v && nat_lt (now - z.came) s.select_ms

    abbrev place : Select → SelectStage → Selection
    place z st = at s.sizes s.stations s.select_ms s.max_age_ms z st

    -- what becomes of the select that stands for a target which isn't negated
    module _ (ys : List Selection)
        (stays : (t : Target) (z : Select) → target_of z.command ≡ t → negates t v ≡ false
        → (st : SelectStage)
        → (is_accepted st && confirms_now z) ≡ false → Kept (place z st) s.selections
        → Kept (place z st) ys)
        (lives : (t : Target) (z : Select) → target_of z.command ≡ t → negates t v ≡ false
        → (st : SelectStage)
        → (is_accepted st && confirms_now z) ≡ true → Kept (place z st) s.selections
        → Kept (place z (stage.Live now)) ys) where
      by_negation : (t : Target) (z : Select) (n : Bool) → negates t v ≡ n
          → (if n then None else standing s.sizes s.stations s.select_ms s.max_age_ms t h) ≡ Some z
          → Stands s.sizes s.stations s.select_ms s.max_age_ms (Mirrored now v ∷ h) now ys t z
      by_negation t z true n e = no_select z e
      by_negation t z false n e =
          let old : Stands s.sizes s.stations s.select_ms s.max_age_ms h before s.selections t z =
          full t z e in
          record {
            came = omega (arith, old.came, later);
            target = old.target;
            found = heeded s.sizes s.stations s.select_ms s.max_age_ms h before s.selections ys now
                v
                z
                (confirms_now z) refl later old.came (stays t z old.target n)
                (lives t z old.target n) old.found;
          }

      pub heeds : Full s.sizes s.stations s.select_ms s.max_age_ms (Mirrored now v ∷ h) now ys
      heeds t z e = by_negation t z (negates t v) refl e

    unchanged : ((z : Select) → confirms z.command v ≡ false) → Mirrors s
    unchanged never = heeds s.selections (λ t z e n st a k. k)
        (λ t z e n st a k. false_is_true
        (sym (and_false_right (is_accepted st) (confirms_now z) (rw (never z) refl))
        ∙ a))

    kept_left : (y : Selection) (is : List Info) (zs : List Selection)
        → list_any (λ i. same_target (target_of y.command) (target_at v i)) is ≡ false → Kept y zs
        → Kept y (left s.select_ms v is zs)
    kept_left y [] zs e k = k
    kept_left y (i ∷ is) zs e k =
        let p : _ = or_parts (same_target (target_of y.command) (target_at v i))
        (list_any (λ i. same_target (target_of y.command) (target_at v i)) is) e in
        kept_left y is (filter_map (advanced s.select_ms (sign.Over (target_at v i))) zs) p.1
        (kept_mapped (advanced s.select_ms (sign.Over (target_at v i))) y y (rw p.0 refl) zs k)

    unnamed : (t : Target) → is_con true v.cause ≡ true → negates t v ≡ false
        → list_any (λ i. same_target t (target_at v i)) v.infos ≡ false
    unnamed t p n =
        subst (λ (b : Bool). (b && list_any (λ i. same_target t (target_at v i)) v.infos) ≡ false) p
        n

    on_negative : is_con true v.cause ≡ true → Mirrors (mirrors.all_over v v.infos s)
    on_negative p =
        subst Mirrors (sym (left_is v v.infos s)) (heeds (left s.select_ms v v.infos s.selections)
        (λ t z e n st a k. kept_left (place z st) v.infos s.selections
        (subst (λ (u : Target). list_any (λ i. same_target u (target_at v i)) v.infos ≡ false)
        (sym e)
        (unnamed t p n)) k)
        (λ t z e n st a k. false_is_true
        (sym (and_false_right (is_accepted st) (confirms_now z) (rw p refl)) ∙ a)))

    abbrev con : Info → CommandElement → List Selection
    con i f = After s.sizes s.stations s.select_ms s.max_age_ms (sign.Con (target_at v i) f now)
        s.selections

    -- the test that the machine makes is the one that the history makes
    test_is : is_con true v.cause ≡ false → is_con false v.cause ≡ true → (i : Info) → v.infos
        ≡ i ∷ [] → (f : CommandElement)
        → element_of i.element ≡ Some f → (z : Select) (st : SelectStage) →
        (same_target (target_of z.command) (target_at v i) && same_element z.command.element f
        && is_accepted st
        && nat_lt (now - z.came) s.select_ms) ≡ (is_accepted st && confirms_now z)
    test_is n p i one f e z st =
        let is : confirms_now z ≡ (same_target (target_of z.command) (target_at v i)
        && same_element z.command.element f && nat_lt (now - z.came) s.select_ms) =
        rw (n, p, one, e) refl in
        and_swap (same_target (target_of z.command) (target_at v i)
        && same_element z.command.element f)
        (is_accepted st) (nat_lt (now - z.came) s.select_ms)
        ∙ and_turn (same_target (target_of z.command) (target_at v i)
        && same_element z.command.element f
        && nat_lt (now - z.came) s.select_ms) (is_accepted st)
        ∙ ap (λ (b : Bool). is_accepted st && b) (sym is)

    on_element : is_con true v.cause ≡ false → is_con false v.cause ≡ true → (i : Info) → v.infos
        ≡ i ∷ []
        → (f : Option CommandElement) → element_of i.element ≡ f
        → Mirrors (mirrors.confirmed f (target_at v i) now s)
    on_element n p i one None e =
        unchanged (λ z. rw (n, p, one, e) (and_false_right
        (same_target (target_of z.command) (target_at v i)) false refl))
    on_element n p i one (Some f) e = heeds (con i f)
        (λ t z same_one off st a k. kept_mapped
        (advanced s.select_ms (sign.Con (target_at v i) f now)) (place z st)
        (place z st) (rw (test_is n p i one f e z st ∙ a) refl) s.selections k)
        (λ t z same_one off st a k. kept_mapped
        (advanced s.select_ms (sign.Con (target_at v i) f now)) (place z st)
        (place z (stage.Live now)) (rw (test_is n p i one f e z st ∙ a) refl) s.selections k)

    on_positive : is_con true v.cause ≡ false → is_con false v.cause ≡ true → (is : List Info)
        → v.infos ≡ is
        → Mirrors (mirrors.one_confirmed v is now s)
    on_positive n p [] e = unchanged (λ z. rw (n, p, e) refl)
    on_positive n p (i ∷ []) e = on_element n p i e (element_of i.element) refl
    on_positive n p (i ∷ j ∷ is) e = unchanged (λ z. rw (n, p, e) refl)

    not_negative : is_con true v.cause ≡ false → (b : Bool) → is_con false v.cause ≡ b
        → Mirrors (if b then mirrors.one_confirmed v v.infos now s else s)
    not_negative n true p = on_positive n p v.infos refl
    not_negative n false p = unchanged (λ z. rw (n, p) refl)

    by_sign : (b : Bool) → is_con true v.cause ≡ b → Mirrors
        (if b then mirrors.all_over v v.infos s
        else (if is_con false v.cause then mirrors.one_confirmed v v.infos now
        s else s))
    by_sign true e = on_negative e
    by_sign false e = not_negative e (is_con false v.cause) refl

    pub mirrored : Mirrors (mirrors.mirrored v now s)
    mirrored = by_sign (is_con true v.cause) refl

  -- ---- the other calls

  abbrev selection_at : Select → ℕ
  selection_at z = home s.sizes s.stations s.select_ms s.max_age_ms z.command

  sends : (k : ℕ) (o : Option Waiting) → oldest k s.waiting ≡ o
      → Goal (after_sending o k (record { state = s; history = h })).history before
      (after_sending o k (record { state = s; history = h })).state
  sends k None e = full
  sends k (Some w) e =
      subst (λ (o : Option Waiting). Goal (Sent k w.octets ∷ h) before (state.put_out o k s))
      (sym e)
      (λ t z f. let old : Stands s.sizes s.stations s.select_ms s.max_age_ms h before s.selections t
      z = full t z f in
      record {
        came = old.came;
        target = old.target;
        found =
            sent_at s.sizes s.stations s.select_ms s.max_age_ms h before s.selections w.octets k z
            (selection_at z == k) refl old.found;
      })

  gives : (o : Option (List ℕ)) → Goal (after_answer o (record { state = s; history = h })).history
      before
      (after_answer o (record { state = s; history = h })).state
  gives None = full
  gives (Some octets) =
      λ t z f. let old : Stands s.sizes s.stations s.select_ms s.max_age_ms h before s.selections t
      z = full t z f in
      record {
        came = old.came;
        target = old.target;
        found =
            answered_found s.sizes s.stations s.select_ms s.max_age_ms h before s.selections octets
            z old.found;
      }

  keeps : (octets : List ℕ) (b : Bool)
      → Goal (Offered octets b ∷ h) before (if b then state.kept octets s else s)
  keeps octets true =
      λ t z f. let old : Stands s.sizes s.stations s.select_ms s.max_age_ms h before s.selections t
      z = full t z f in
      record {
        came = old.came;
        target = old.target;
        found =
            offered_found s.sizes s.stations s.select_ms s.max_age_ms h before s.selections octets
            true z old.found;
      }
  keeps octets false =
      λ t z f. let old : Stands s.sizes s.stations s.select_ms s.max_age_ms h before s.selections t
      z = full t z f in
      record {
        came = old.came;
        target = old.target;
        found =
            offered_found s.sizes s.stations s.select_ms s.max_age_ms h before s.selections octets
            false z old.found;
      }

  pub stepping : (call : Call) → before ≤ moment_of call before
      → Goal (after_call call (record { state = s; history = h })).history (moment_of call before)
      (after_call call (record { state = s; history = h })).state
  stepping (Judge xs now wall) l = judges xs now wall l
  stepping (PutOnLine k) l = sends k (oldest k s.waiting) refl
  stepping (Accept k) l =
      λ t z f. let old : Stands s.sizes s.stations s.select_ms s.max_age_ms h before s.selections t
      z = full t z f in
      record {
        came = old.came;
        target = old.target;
        found =
            accepted_found s.sizes s.stations s.select_ms s.max_age_ms h before s.selections k z
            (selection_at z == k) refl old.found;
      }
  stepping (Busy k) l =
      λ t z f. let old : Stands s.sizes s.stations s.select_ms s.max_age_ms h before s.selections t
      z = full t z f in
      record {
        came = old.came;
        target = old.target;
        found =
            refused_found s.sizes s.stations s.select_ms s.max_age_ms h before s.selections k
            (state.refusal_of (line_of k s)) z (selection_at z == k) refl old.found;
      }
  stepping (Lose k) l =
      λ t z f. let old : Stands s.sizes s.stations s.select_ms s.max_age_ms h before s.selections t
      z = full t z f in
      record {
        came = old.came;
        target = old.target;
        found =
            lost_found s.sizes s.stations s.select_ms s.max_age_ms h before s.selections k
            (state.is_used (line_of k s)) z
            (selection_at z == k) refl old.found;
      }
  stepping (Mirror v now) l = mirrored v now l
  stepping (Own octets) l = keeps octets (has_answer_place s)
  stepping SendOwn l = gives (first_answer s.answers)
  stepping Cut l = λ t z f. no_select z f
  stepping (Due now) l =
      λ t z f. let old : Stands s.sizes s.stations s.select_ms s.max_age_ms h before s.selections t
      z = full t z f in
      record {
        came = omega (arith, old.came, l);
        target = old.target;
        found =
            timed_found s.sizes s.stations s.select_ms s.max_age_ms h before s.selections now z l
            old.found;
      }

pub run_full : (sizes : Sizes) (stations : List StationInfo) (ms age : ℕ) (calls : List Call)
    → NeverFall calls
    → Full sizes stations ms age (run stations sizes ms age calls).history (latest calls)
    (run stations sizes ms age calls).state.selections
run_full sizes stations ms age [] n = λ t z f. no_select z f
run_full sizes stations ms age (call ∷ earlier) n =
    let r : Run = run stations sizes ms age earlier in
    let k : Holds sizes stations ms age r = run_holds sizes stations ms age earlier in
    let own : Full r.state.sizes r.state.stations r.state.select_ms r.state.max_age_ms r.history
    (latest earlier) r.state.selections =
    owned (λ sizes stations ms age. Full sizes stations ms age r.history (latest earlier)
    r.state.selections) r k
    (run_full sizes stations ms age earlier n.1) in
    let queue : KeepsQueue r.state.sizes r.state.stations r.state.select_ms r.state.max_age_ms
    r.state.waiting
    r.history =
    owned (λ sizes stations ms age. KeepsQueue sizes stations ms age r.state.waiting r.history) r k
    k.keeps.queue in
    given_back (λ sizes stations ms age. Full sizes stations ms age (after_call call r).history
    (moment_of call (latest earlier)) (after_call call r).state.selections) r k
    (stepping r.state r.history (latest earlier) own queue call n.0)

-- ---- a live selection lets a selected execute through

passes : (sizes : Sizes) (stations : List StationInfo) (ms age : ℕ) (h : History) (before now : ℕ)
    (zs : List Selection) (x : Command) → before ≤ now
    → (s : IsSelected sizes stations ms age x now h)
    → target_of s.select.command ≡ target_of x →
    Found sizes stations ms age h before zs s.select → list_any (lets_through ms x now) zs ≡ true
passes sizes stations ms age h before now zs x l s same_one (Waits n p k) =
    none_is_some s.moment
    (sym (none_by sizes stations ms age s.select h (confirmed sizes stations ms age s.select h) refl
    (waits_none sizes stations ms age s.select h n p)) ∙ s.confirmed)
passes sizes stations ms age h before now zs x l s same_one (Goes p a k) =
    none_is_some s.moment
    (sym (none_by sizes stations ms age s.select h (confirmed sizes stations ms age s.select h) refl
    a) ∙ s.confirmed)
passes sizes stations ms age h before now zs x l s same_one (Taken a c k) =
    none_is_some s.moment (sym c ∙ s.confirmed)
passes sizes stations ms age h before now zs x l s same_one (Lives m came c k) =
    let is : s.moment ≡ m = some_is s.moment m (sym s.confirmed ∙ c) in
    let quick : now - m < ms = subst (λ (n : ℕ). now - n < ms) is s.in_time in
    let live : nat_lt (now - m) ms ≡ true = grind (arith, quick) in
    let target : same_target (target_of s.select.command) (target_of x) ≡ true =
    subst (λ (t : Target). same_target t (target_of x) ≡ true) (sym same_one)
    (same_target_itself (target_of x)) in
    kept_passes (lets_through ms x now) (at sizes stations ms age s.select (stage.Live m)) zs
    (rw (target, s.element, s.test, s.received, live) refl) k
passes sizes stations ms age h before now zs x l s same_one (Gone below p a) =
    none_is_some s.moment
    (sym (none_by sizes stations ms age s.select h (confirmed sizes stations ms age s.select h) refl
    a) ∙ s.confirmed)
passes sizes stations ms age h before now zs x l s same_one (Late c t) =
    none_is_some s.moment (sym c ∙ s.confirmed)
passes sizes stations ms age h before now zs x l s same_one (Past m came c t) =
    let is : s.moment ≡ m = some_is s.moment m (sym s.confirmed ∙ c) in
    let quick : now - m < ms = subst (λ (n : ℕ). now - n < ms) is s.in_time in
    absurd (omega (arith, l, t, quick))

pub run_passes : (sizes : Sizes) (stations : List StationInfo) (ms age : ℕ) (calls : List Call)
    → NeverFall calls
    → (x : Command) (now : ℕ) → latest calls ≤ now → IsSelected sizes stations ms age x now
    (run stations sizes ms age calls).history →
    list_any (lets_through ms x now) (run stations sizes ms age calls).state.selections ≡ true
run_passes sizes stations ms age calls n x now l s =
    let stood : Stands sizes stations ms age (run stations sizes ms age calls).history
    (latest calls)
    (run stations sizes ms age calls).state.selections (target_of x) s.select =
    run_full sizes stations ms age calls n (target_of x) s.select s.stands in
    passes sizes stations ms age (run stations sizes ms age calls).history (latest calls) now
    (run stations sizes ms age calls).state.selections x l s stood.target stood.found
