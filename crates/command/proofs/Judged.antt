-- What judging keeps.
use Rattle.std.proofs.Common.{◌≡◌, ℕ, ◌+◌, ◌-◌, ◌≤◌, ◌&&◌, ◌||◌, Bool, true, false, not, List, []}
use Rattle.std.proofs.Common.{◌∷◌, ◌++◌, length, drop, refl, sym, subst, ap, ◌∙◌, arith, rules}
use Rattle.std.specs.Prelude.{◌==◌, Option, Some, None, if◌then◌else◌, is_none, slice_get}
use Rattle.std.specs.List.{filter_map, list_any, AllByRecursion}
use Rattle.std.proofs.lemmas.List.{length-append, append-nil, length-drop, drop-append-le}
use Rattle.std.proofs.lemmas.Bool.{and_parts, eqb-true, ltb-true}
use Rattle.asdu.specs.declared.sizes.Sizes.{Sizes}
use Rattle.command.specs.declared.content.Command.{Command}
use Rattle.command.specs.declared.content.Target.{Target}
use Rattle.command.specs.declared.station.StationInfo.{StationInfo}
use Rattle.command.specs.declared.waiting.Waiting.{Waiting}
use Rattle.command.specs.declared.selection.Selection.{Selection}
use Rattle.command.specs.declared.selection.SelectStage.{SelectStage}
use Rattle.command.specs.declared.selection.SelectStage.TheVariants as stage
use Rattle.command.specs.declared.selection.Sign.TheVariants as sign
use Rattle.command.specs.declared.waiting.Line.{Line}
use Rattle.command.specs.Command.{command_at, is_execute, without_select}
use Rattle.command.specs.Selection.{advanced, target_of, same_target, same_element, same_test}
use Rattle.command.specs.Selection.{is_live, lets_through}
use Rattle.command.specs.Octets.{answer, negative}
use Rattle.command.specs.Stations.{station_number, is_guarded}
use Rattle.command.specs.State.{State}
use Rattle.command.specs.Judging as judging
use Rattle.command.specs.Judging.{fault, copies, waiting_count, makes_selection, ends_selection}
use Rattle.command.specs.Judging.{lacks_selection}
use Rattle.command.specs.History.{Judged, History, sent_count, forwarded_to, is_for, cause_given}
use Rattle.command.proofs.Machine.{Select, standing, names, IsSelected}
use Rattle.command.proofs.ReadAlike.{faults_read}
use Rattle.command.proofs.Sendings.{waiting_for, waiting_for-append, copies_for, if_for}
use Rattle.command.proofs.Sendings.{copies_shaped, shaped-append, count_is, same}
use Rattle.command.proofs.Keeps.{KeepsQueue, KeepsLines, KeepsOwn, Keeps, Same}
use Rattle.command.proofs.Tied.{AtStage, station_at, select_of, Perhaps, all_kept, all_mapped, Tied}
use Rattle.command.proofs.Tied.{judged_tied}

pub and_false : (a b : Bool) → b ≡ false → (a && b) ≡ false
and_false true b h = h
and_false false b h = refl

false_is_not_true : false ≡ true → ⊥
false_is_not_true h = search (rules, h)

abbrev target : ℕ → ℕ → ℕ → Target
target kind ca address = record { kind = kind; ca = ca; address = address }

pub targets_equal : (a b : Target) → same_target a b ≡ true → a ≡ b
targets_equal a b e =
    let p : _ = and_parts (a.kind == b.kind && a.ca == b.ca) (a.address == b.address) e in
    let q : _ = and_parts (a.kind == b.kind) (a.ca == b.ca) p.0 in
    let kind : a.kind ≡ b.kind = eqb-true a.kind b.kind q.0 in
    let ca : a.ca ≡ b.ca = eqb-true a.ca b.ca q.1 in
    let address : a.address ≡ b.address = eqb-true a.address b.address p.1 in
    ap (λ (n : ℕ). target n a.ca a.address) kind ∙ (ap (λ (n : ℕ). target b.kind n a.address) ca
    ∙ ap (λ (n : ℕ). target b.kind b.ca n) address)

and_true : (a b : Bool) → a ≡ true → b ≡ true → (a && b) ≡ true
and_true a b h i = rw (h, i) refl

has_one : (g x a : Bool) → g ≡ true → x ≡ true → (g && x && not a) ≡ false → a ≡ true
has_one g x true h i e = refl
has_one g x false h i e = sym (subst (λ b. (b && true) ≡ false) (and_true g x h i) e)

pub all_append : {X : Type 0} (P : X → Type 0) (xs : List X) (x : X) → AllByRecursion P xs → P x
    → AllByRecursion P (xs ++ x ∷ [])
all_append P [] x h p = (p, tt)
all_append P (y ∷ ys) x h p = (h.0, all_append P ys x h.1 p)

pub same_target_itself : (t : Target) → same_target t t ≡ true
same_target_itself t = rw (same t.kind, same t.ca, same t.address) refl

module _ (sizes : Sizes) (stations : List StationInfo) (select_ms max_age_ms : ℕ) where
  abbrev stand : Target → History → Option Select
  stand t h = standing sizes stations select_ms max_age_ms t h

  -- another target's select stands
  other_target : (h : History) (now : ℕ) (wall : Option ℕ) (xs : List ℕ) (b : Option (List ℕ))
      (t : Target)
      → same_target t (target_of (command_at xs)) ≡ false → stand t (Judged now wall xs b ∷ h)
      ≡ stand t h
  other_target h now wall xs b t e =
      rw (and_false (is_none (fault sizes stations max_age_ms wall xs))
      (same_target t (target_of (command_at xs))) e)
      refl

  faulty : (h : History) (now : ℕ) (wall : Option ℕ) (xs : List ℕ) (cause : ℕ) (a : List ℕ)
      (t : Target)
      → fault sizes stations max_age_ms wall xs ≡ Some cause
      → stand t (Judged now wall xs (Some a) ∷ h) ≡ stand t h
  faulty h now wall xs cause a t e = rw e refl

  left_alone : (h : History) (now : ℕ) (wall : Option ℕ) (xs : List ℕ) (b : Option (List ℕ))
      (t : Target) (n : Bool)
      → names sizes stations select_ms max_age_ms t wall xs ≡ n
      → (is_none b && makes_selection stations (command_at xs)) ≡ false
      → ends_selection (command_at xs) ≡ false
      → stand t (Judged now wall xs b ∷ h) ≡ stand t h
  left_alone h now wall xs b t true e m d = rw (e, m, d) refl
  left_alone h now wall xs b t false e m d = rw e refl

  over_at : (h : History) (now : ℕ) (wall : Option ℕ) (xs : List ℕ) (b : Option (List ℕ))
      (z : Selection) (r : Bool)
      → same_target (target_of z.command) (target_of (command_at xs)) ≡ r
      → Tied sizes stations select_ms max_age_ms h z →
      Perhaps (Tied sizes stations select_ms max_age_ms (Judged now wall xs b ∷ h)) (if r then None
      else Some z)
  over_at h now wall xs b z true e t = tt
  over_at h now wall xs b z false e t = judged_tied sizes stations select_ms max_age_ms h now wall
      xs b z t
      (other_target h now wall xs b (target_of z.command) e)

  over_now : (h : History) (c : Command) (z : Selection) (r : Bool)
      → Tied sizes stations select_ms max_age_ms h z
      → Perhaps (Tied sizes stations select_ms max_age_ms h) (if r then None else Some z)
  over_now h c z true t = tt
  over_now h c z false t = t

  abbrev over : Command → List Selection → List Selection
  over c zs = filter_map (advanced select_ms (sign.Over (target_of c))) zs

  abbrev All : History → List Selection → Type 0
  All h zs = AllByRecursion (Tied sizes stations select_ms max_age_ms h) zs

  all_over : (h : History) (now : ℕ) (wall : Option ℕ) (xs : List ℕ) (b : Option (List ℕ))
      (zs : List Selection)
      → All h zs → All (Judged now wall xs b ∷ h) (over (command_at xs) zs)
  all_over h now wall xs b zs a =
      all_kept (advanced select_ms (sign.Over (target_of (command_at xs))))
      (Tied sizes stations select_ms max_age_ms h)
      (Tied sizes stations select_ms max_age_ms (Judged now wall xs b
      ∷ h))
      (λ z t. over_at h now wall xs b z
      (same_target (target_of z.command) (target_of (command_at xs))) refl t)
      zs a

  all_over_now : (h : History) (c : Command) (zs : List Selection) → All h zs → All h (over c zs)
  all_over_now h c zs a = all_kept (advanced select_ms (sign.Over (target_of c)))
      (Tied sizes stations select_ms max_age_ms h) (Tied sizes stations select_ms max_age_ms h)
      (λ z t. over_now h c z _ t) zs a

  -- an ASDU that is answered changes nothing of the queue, the lines and the own answers
  answered_queue : (waiting : List Waiting) (h : History) (now : ℕ) (wall : Option ℕ)
      (xs a : List ℕ)
      → KeepsQueue sizes stations select_ms max_age_ms waiting h
      → KeepsQueue sizes stations select_ms max_age_ms waiting (Judged now wall xs (Some a) ∷ h)
  answered_queue waiting h now wall xs a q = record {
    count = q.count;
    in_turn = q.in_turn;
    shaped = q.shaped;
    sends =
        q.sends;
  }

  judged_lines : (lines : List Line) (h : History) (now : ℕ) (wall : Option ℕ) (xs : List ℕ)
      (b : Option (List ℕ))
      → KeepsLines sizes stations select_ms max_age_ms lines h
      → KeepsLines sizes stations select_ms max_age_ms lines (Judged now wall xs b ∷ h)
  judged_lines lines h now wall xs b l = record { number = l.number; held = l.held; used = l.used }

  judged_own : (answers : List (List ℕ)) (h : History) (now : ℕ) (wall : Option ℕ) (xs : List ℕ)
      (b : Option (List ℕ))
      → KeepsOwn answers h → KeepsOwn answers (Judged now wall xs b ∷ h)
  judged_own answers h now wall xs b o = record { in_turn = o.in_turn; kept = o.kept }

  not_forwarded : (waiting : List Waiting) (lines : List Line) (old zs : List Selection)
      (answers : List (List ℕ))
      (h : History) (now : ℕ) (wall : Option ℕ) (xs a : List ℕ)
      → Keeps sizes stations select_ms max_age_ms waiting lines old answers h →
      a ≡ answer (cause_given sizes stations select_ms max_age_ms wall xs) xs
      → All (Judged now wall xs (Some a) ∷ h) zs
      → Keeps sizes stations select_ms max_age_ms waiting lines zs answers
      (Judged now wall xs (Some a) ∷ h)
  not_forwarded waiting lines old zs answers h now wall xs a k right all = record {
    queue = answered_queue waiting h now wall xs a k.queue;
    on_lines = judged_lines lines h now wall xs (Some a) k.on_lines;
    own = judged_own answers h now wall xs (Some a) k.own;
    tied = all;
    executes = k.executes;
    rightly = (right, k.rightly);
  }

  abbrev IsLet : History → ℕ → List ℕ → Type 0
  IsLet h now xs = is_guarded stations (command_at xs) ≡ true → is_execute (command_at xs) ≡ true
      → IsSelected sizes stations select_ms max_age_ms (command_at xs) now h

  -- one more is forwarded to station k, or not
  longer : (n : ℕ) (fw : List (List ℕ)) (xs : List ℕ) (b : Bool) → n ≤ length fw
      → n ≤ length (if b then fw ++ xs ∷ [] else fw)
  longer n fw xs true h = omega (arith, h, length-append fw (xs ∷ []))
  longer n fw xs false h = h

  left_longer : (n : ℕ) (fw ws : List (List ℕ)) (xs : List ℕ) (b : Bool) → n ≤ length fw
      → drop n fw ≡ ws
      → drop n (if b then fw ++ xs ∷ [] else fw) ≡ ws ++ if_for b xs
  left_longer n fw ws xs true h e = drop-append-le n fw (xs ∷ []) h ∙ ap (λ ys. ys ++ xs ∷ []) e
  left_longer n fw ws xs false h e = e ∙ sym (append-nil ws)

  forwarded_queue : (waiting : List Waiting) (h : History) (now : ℕ) (wall : Option ℕ) (xs : List ℕ)
      → fault sizes stations max_age_ms wall xs ≡ None
      → KeepsQueue sizes stations select_ms max_age_ms waiting h →
      KeepsQueue sizes stations select_ms max_age_ms (waiting ++ copies sizes xs 0 stations)
      (Judged now wall xs None
      ∷ h)
  forwarded_queue waiting h now wall xs f q = record {
    count = λ k. longer (sent_count sizes stations select_ms max_age_ms k h)
        (forwarded_to sizes stations select_ms max_age_ms k h) xs
        (is_for sizes stations select_ms max_age_ms k xs)
        (q.count k);
    in_turn = λ k. (
        let none_before : k ≡ 0 + k = omega arith in
        left_longer (sent_count sizes stations select_ms max_age_ms k h)
        (forwarded_to sizes stations select_ms max_age_ms k h) (waiting_for k waiting) xs
        (is_for sizes stations select_ms max_age_ms k xs) (q.count k) (q.in_turn k)
        ∙ ap (λ ys. waiting_for k waiting ++ ys)
        (sym (copies_for sizes xs k 0 k stations none_before))
        ∙ sym (waiting_for-append k waiting (copies sizes xs 0 stations)));
    shaped = shaped-append sizes stations waiting (copies sizes xs 0 stations) q.shaped
        (copies_shaped sizes stations max_age_ms wall xs f 0 stations (let e : 0 + length stations
        ≡ length stations =
        omega arith in e) (λ k. let e : 0 + k ≡ k = omega arith in
        ap (λ n. slice_get stations n) e));
    sends = q.sends;
  }

  was_forwarded : (waiting : List Waiting) (lines : List Line) (old zs : List Selection)
      (answers : List (List ℕ))
      (h : History) (now : ℕ) (wall : Option ℕ) (xs : List ℕ)
      → Keeps sizes stations select_ms max_age_ms waiting lines old answers h →
      fault sizes stations max_age_ms wall xs ≡ None → IsLet h now xs
      → All (Judged now wall xs None ∷ h) zs
      → Keeps sizes stations select_ms max_age_ms (waiting ++ copies sizes xs 0 stations) lines zs
      answers
      (Judged now wall xs None ∷ h)
  was_forwarded waiting lines old zs answers h now wall xs k f let_through all = record {
    queue = forwarded_queue waiting h now wall xs f k.queue;
    on_lines = judged_lines lines h now wall xs None k.on_lines;
    own = judged_own answers h now wall xs None k.own;
    tied = all;
    executes = (let_through, k.executes);
    rightly = (sym (faults_read sizes stations max_age_ms wall xs) ∙ f, k.rightly);
  }

  abbrev new_one : Command → ℕ → List Waiting → Selection
  new_one c now waiting = record {
    station = station_number c.ca stations;
    command = c;
    came = now;
    stage =
        stage.Queued (waiting_count (station_number c.ca stations) waiting);
  }

  left_is : (n : ℕ) (fw : List (List ℕ)) → n ≤ length fw → length fw ≡ n + length (drop n fw)
  left_is n fw h = omega (arith, h, length-drop n fw)

  new_tied : (waiting : List Waiting) (h : History) (now : ℕ) (wall : Option ℕ) (xs : List ℕ)
      → KeepsQueue sizes stations select_ms max_age_ms waiting h
      → fault sizes stations max_age_ms wall xs ≡ None
      → makes_selection stations (command_at xs) ≡ true →
      Tied sizes stations select_ms max_age_ms (Judged now wall xs None ∷ h)
      (new_one (command_at xs) now waiting)
  new_tied waiting h now wall xs q f m =
      let k : ℕ = station_number (command_at xs).ca stations in
      let left : length (forwarded_to sizes stations select_ms max_age_ms k h)
      ≡ sent_count sizes stations select_ms max_age_ms k h + length
      (drop (sent_count sizes stations select_ms max_age_ms k h)
      (forwarded_to sizes stations select_ms max_age_ms k h)) =
      left_is (sent_count sizes stations select_ms max_age_ms k h)
      (forwarded_to sizes stations select_ms max_age_ms k h) (q.count k) in
      let waits : length (drop (sent_count sizes stations select_ms max_age_ms k h)
      (forwarded_to sizes stations select_ms max_age_ms k h)) ≡ waiting_count k waiting =
      ap (λ (ys : List (List ℕ)). length ys) (q.in_turn k) ∙ count_is k waiting in
      record {
        place = length (forwarded_to sizes stations select_ms max_age_ms k h);
        station = refl;
        stands = rw (f, same_target_itself (target_of (command_at xs)), m) refl;
        at_stage = left ∙ ap (λ n. sent_count sizes stations select_ms max_age_ms k h + n) waits;
      }

module _ (s : State) (h : History) (xs : List ℕ) (now : ℕ) (wall : Option ℕ)
    (ks : Keeps s.sizes s.stations s.select_ms s.max_age_ms s.waiting s.lines s.selections s.answers
    h) where
  abbrev pub Goal : judging.Judgement → Type 0
  Goal r = Same s r.1 × Keeps s.sizes s.stations s.select_ms s.max_age_ms r.1.waiting r.1.lines
      r.1.selections
      r.1.answers (Judged now wall xs r.0 ∷ h)

  abbrev with_selections : List Selection → State
  with_selections zs = record s { selections = zs }

  abbrev Tied_after : Option (List ℕ) → List Selection → Type 0
  Tied_after b zs =
      AllByRecursion (Tied s.sizes s.stations s.select_ms s.max_age_ms (Judged now wall xs b ∷ h))
      zs

  abbrev refusal : List ℕ
  refusal = answer (negative xs) xs

  -- a command without a fault of its own gets a negative answer
  negative_given : fault s.sizes s.stations s.max_age_ms wall xs ≡ None
      → refusal ≡ answer (cause_given s.sizes s.stations s.select_ms s.max_age_ms wall xs) xs
  negative_given f = rw (sym (faults_read s.sizes s.stations s.max_age_ms wall xs) ∙ f) refl

  refuse : (zs : List Selection) → fault s.sizes s.stations s.max_age_ms wall xs ≡ None
      → Tied_after (Some refusal) zs
      → Goal (judging.refused (negative xs) xs (with_selections zs))
  refuse zs f all = (
    record { sizes = refl; stations = refl; select_ms = refl; max_age_ms = refl },
    not_forwarded s.sizes s.stations s.select_ms s.max_age_ms s.waiting s.lines s.selections zs
        s.answers h now wall
        xs refusal ks (negative_given f) all,
  )

  on_makes : (zs : List Selection)
      → AllByRecursion (Tied s.sizes s.stations s.select_ms s.max_age_ms h) zs
      → (makes_selection s.stations (command_at xs) ≡ false → Tied_after None zs)
      → IsLet s.sizes s.stations s.select_ms s.max_age_ms h now xs
      → fault s.sizes s.stations s.max_age_ms wall xs ≡ None →
      (m : Bool) → makes_selection s.stations (command_at xs) ≡ m
      → Goal (
        None,
        judging.queued xs (if m then judging.selected (command_at xs) now
            (with_selections zs) else with_selections zs),
      )
  on_makes zs a plain l f true e = (
    record { sizes = refl; stations = refl; select_ms = refl; max_age_ms = refl },
    was_forwarded s.sizes s.stations s.select_ms s.max_age_ms s.waiting s.lines s.selections _
        s.answers h now wall xs
        ks f l
        (all_append _ _ _ (all_over s.sizes s.stations s.select_ms s.max_age_ms h now wall xs None
        zs a)
        (new_tied s.sizes s.stations s.select_ms s.max_age_ms s.waiting h now wall xs ks.queue f
        e)),
  )
  on_makes zs a plain l f false e = (
    record { sizes = refl; stations = refl; select_ms = refl; max_age_ms = refl },
    was_forwarded s.sizes s.stations s.select_ms s.max_age_ms s.waiting s.lines s.selections zs
        s.answers h now wall
        xs ks f l (plain e),
  )

  on_place : (zs : List Selection)
      → AllByRecursion (Tied s.sizes s.stations s.select_ms s.max_age_ms h) zs
      → Tied_after (Some refusal) zs → (makes_selection s.stations (command_at xs) ≡ false
      → Tied_after None zs)
      → IsLet s.sizes s.stations s.select_ms s.max_age_ms h now xs
      → fault s.sizes s.stations s.max_age_ms wall xs ≡ None →
      (b : Bool) → Goal (if b then judging.refused (negative xs) xs (with_selections zs) else (
        None,
        judging.forwarded xs (command_at xs) now (with_selections zs),
      ))
  on_place zs a refused plain l f true = refuse zs f refused
  on_place zs a refused plain l f false =
      on_makes zs a plain l f (makes_selection s.stations (command_at xs)) refl

  on_ends : IsLet s.sizes s.stations s.select_ms s.max_age_ms h now xs
      → fault s.sizes s.stations s.max_age_ms wall xs ≡ None → (b : Bool)
      → ends_selection (command_at xs) ≡ b →
      Goal (judging.placed xs (command_at xs) now (if b
      then judging.without_selection (command_at xs) s else s))
  on_ends l f true e =
      on_place _ (all_over_now s.sizes s.stations s.select_ms s.max_age_ms h (command_at xs)
      s.selections ks.tied)
      (all_over s.sizes s.stations s.select_ms s.max_age_ms h now wall xs (Some refusal)
      s.selections ks.tied)
      (λ m. all_over s.sizes s.stations s.select_ms s.max_age_ms h now wall xs None s.selections
      ks.tied) l f _
  on_ends l f false e = on_place s.selections ks.tied
      (all_mapped _ _ (λ z t. judged_tied s.sizes s.stations s.select_ms s.max_age_ms h now wall xs
      (Some refusal) z t
      (left_alone s.sizes s.stations s.select_ms s.max_age_ms h now wall xs (Some refusal)
      (target_of z.command) _ refl refl e)) s.selections ks.tied)
      (λ m. all_mapped _ _ (λ z t. judged_tied s.sizes s.stations s.select_ms s.max_age_ms h now
      wall xs None z t
      (left_alone s.sizes s.stations s.select_ms s.max_age_ms h now wall xs None
      (target_of z.command) _ refl m e))
      s.selections ks.tied) l f _

  on_lack : ((lacks_selection (command_at xs) now s ≡ false)
      → IsLet s.sizes s.stations s.select_ms s.max_age_ms h now xs)
      → fault s.sizes s.stations s.max_age_ms wall xs ≡ None → (b : Bool)
      → lacks_selection (command_at xs) now s ≡ b →
      Goal (if b then judging.refused (negative xs) xs
      (judging.without_selection (command_at xs) s) else judging.placed xs (command_at xs) now
      (if ends_selection (command_at xs) then judging.without_selection (command_at xs) s else s))
  on_lack l f true e =
      refuse _ f (all_over s.sizes s.stations s.select_ms s.max_age_ms h now wall xs
      (Some refusal) s.selections ks.tied)
  on_lack l f false e = on_ends (l e) f (ends_selection (command_at xs)) refl

  -- a selection that lets it through is its select
  live_at : (z : Selection) (t : Tied s.sizes s.stations s.select_ms s.max_age_ms h z)
      (st : SelectStage)
      → AtStage s.sizes s.stations s.select_ms s.max_age_ms st
      (station_at s.sizes s.stations s.select_ms s.max_age_ms z.command)
      (select_of s.sizes s.stations s.select_ms s.max_age_ms z t.place) h →
      is_live s.select_ms now st ≡ true → target_of z.command ≡ target_of (command_at xs)
      → (z.command.received == (command_at xs).received) ≡ true
      → same_element (without_select z.command.element) (command_at xs).element ≡ true
      → same_test z.command.cause (command_at xs).cause ≡ true →
      IsSelected s.sizes s.stations s.select_ms s.max_age_ms (command_at xs) now h
  live_at z t (stage.Live since) a l same_one received element test = record {
    select = select_of s.sizes s.stations s.select_ms s.max_age_ms z t.place;
    stands = subst (λ target. standing s.sizes s.stations s.select_ms s.max_age_ms target h
        ≡ Some (select_of s.sizes s.stations s.select_ms s.max_age_ms z t.place)) same_one t.stands;
    received = received;
    element = element;
    test = test;
    moment = since;
    confirmed = a.1;
    in_time = ltb-true (now - since) s.select_ms l;
  }
  live_at z t (stage.Queued n) a l same_one received element test = absurd (false_is_not_true l)
  live_at z t stage.Sent a l same_one received element test = absurd (false_is_not_true l)
  live_at z t stage.Accepted a l same_one received element test = absurd (false_is_not_true l)

  let_by : (z : Selection) → Tied s.sizes s.stations s.select_ms s.max_age_ms h z
      → lets_through s.select_ms (command_at xs) now z ≡ true
      → IsSelected s.sizes s.stations s.select_ms s.max_age_ms (command_at xs) now h
  let_by z t e =
      let p : _ = and_parts (same_target (target_of z.command) (target_of (command_at xs))
      && same_element (without_select z.command.element) (command_at xs).element
      && same_test z.command.cause (command_at xs).cause && z.command.received ==
      (command_at xs).received)
      (is_live s.select_ms now z.stage) e in
      let o : _ = and_parts (same_target (target_of z.command) (target_of (command_at xs))
      && same_element (without_select z.command.element) (command_at xs).element
      && same_test z.command.cause (command_at xs).cause)
      (z.command.received == (command_at xs).received) p.0 in
      let q : _ = and_parts (same_target (target_of z.command) (target_of (command_at xs))
      && same_element (without_select z.command.element) (command_at xs).element)
      (same_test z.command.cause (command_at xs).cause) o.0 in
      let r : _ = and_parts (same_target (target_of z.command) (target_of (command_at xs)))
      (same_element (without_select z.command.element) (command_at xs).element) q.0 in
      live_at z t z.stage t.at_stage p.1
      (targets_equal (target_of z.command) (target_of (command_at xs)) r.0) o.1 r.1
      q.1

  found : (z : Selection) (zs : List Selection) (b : Bool)
      → lets_through s.select_ms (command_at xs) now z ≡ b
      → Tied s.sizes s.stations s.select_ms s.max_age_ms h z
      → (b || list_any (lets_through s.select_ms (command_at xs) now) zs) ≡ true →
      (list_any (lets_through s.select_ms (command_at xs) now) zs ≡ true
      → IsSelected s.sizes s.stations s.select_ms s.max_age_ms (command_at xs) now h)
      → IsSelected s.sizes s.stations s.select_ms s.max_age_ms (command_at xs) now h
  found z zs true e t h2 rest = let_by z t e
  found z zs false e t h2 rest = rest h2

  find_select : (zs : List Selection)
      → AllByRecursion (Tied s.sizes s.stations s.select_ms s.max_age_ms h) zs
      → list_any (lets_through s.select_ms (command_at xs) now) zs ≡ true
      → IsSelected s.sizes s.stations s.select_ms s.max_age_ms (command_at xs) now h
  find_select [] a e = absurd (false_is_not_true e)
  find_select (z ∷ zs) a e = found z zs (lets_through s.select_ms (command_at xs) now z) refl a.0 e
      (find_select zs a.1)

  selected : lacks_selection (command_at xs) now s ≡ false
      → IsLet s.sizes s.stations s.select_ms s.max_age_ms h now xs
  selected e g x =
      find_select s.selections ks.tied (has_one (is_guarded s.stations (command_at xs))
      (is_execute (command_at xs))
      (list_any (lets_through s.select_ms (command_at xs) now) s.selections) g x e)

  on_fault : (f : Option ℕ) → fault s.sizes s.stations s.max_age_ms wall xs ≡ f
      → Goal (judging.by_fault f xs now s)
  on_fault (Some cause) e = (
    record { sizes = refl; stations = refl; select_ms = refl; max_age_ms = refl },
    not_forwarded s.sizes s.stations s.select_ms s.max_age_ms s.waiting s.lines s.selections
        s.selections s.answers h
        now wall xs (answer cause xs) ks
        (rw (sym (faults_read s.sizes s.stations s.max_age_ms wall xs) ∙ e) refl)
        (all_mapped _ _ (λ z t. judged_tied s.sizes s.stations s.select_ms s.max_age_ms h now wall
        xs
        (Some (answer cause xs)) z t (faulty s.sizes s.stations s.select_ms s.max_age_ms h now wall
        xs cause
        (answer cause xs) (target_of z.command) e)) s.selections ks.tied),
  )
  on_fault None e = on_lack selected e (lacks_selection (command_at xs) now s) refl

  pub judging_keeps : Goal (judging.judged xs now wall s)
  judging_keeps = on_fault (fault s.sizes s.stations s.max_age_ms wall xs) refl
