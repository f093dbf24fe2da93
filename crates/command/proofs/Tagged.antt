-- What goes out is fresh, and the tags that are kept are those of the latest first sendings.
use Rattle.std.proofs.Common.{◌≡◌, ℕ, zero, suc, ◌+◌, ◌-◌, ◌≤◌, ◌&&◌, Bool, true, false, not, List}
use Rattle.std.proofs.Common.{[], ◌∷◌, ◌++◌, length, map, reverse, take, drop, slice_index, refl}
use Rattle.std.proofs.Common.{sym, subst, ap, ◌∙◌, arith, rules}
use Rattle.std.specs.Prelude.{Option, Some, None, if◌then◌else◌, option_map, nat_le}
use Rattle.std.proofs.lemmas.Bool.{and_parts, leb-true}
use Rattle.std.proofs.lemmas.List.{length-drop, length-reverse, reverse-append, take-append-drop}
use Rattle.std.proofs.lemmas.List.{take-append-le, take_all}
use Rattle.elements.specs.TimeTag.{verdict_of}
use Rattle.elements.specs.declared.tag.Cp56.{Cp56}
use Rattle.elements.specs.declared.tag.Verdict.{Verdict}
use Rattle.elements.specs.declared.tag.Verdict.TheVariants as verdicts
use Rattle.asdu.specs.Asdu.{AsduValue, Info}
use Rattle.asdu.specs.declared.sizes.Sizes.{Sizes}
use Rattle.command.specs.declared.content.Target.{Target}
use Rattle.command.specs.declared.station.StationInfo.{StationInfo}
use Rattle.command.specs.declared.tags.Sending.{Sending}
use Rattle.command.specs.declared.waiting.Waiting.{Waiting}
use Rattle.command.specs.Command.{is_tagged, line_kind, is_process_command}
use Rattle.command.specs.Selection.{same_target}
use Rattle.command.specs.Tags.{tag_octets, tag_at, sending_of, with_sending, newest_tag}
use Rattle.command.specs.Mirrors.{target_at, tag_for}
use Rattle.command.specs.Standard.{has_tag, is_activation, is_fresh, negative_of, operates}
use Rattle.command.specs.Standard.{is_object_of, tag_of, tag_if_any, cause_of_fault, IsFresh}
use Rattle.command.specs.State as state
use Rattle.command.specs.State.{State, oldest, has_answer_place, first_answer}
use Rattle.command.specs.History.{Judged, Sent, Accepted, Refused, GivenUp, Mirrored, Offered}
use Rattle.command.specs.History.{Answered, Ended, History, first, first_known, is_for}
use Rattle.command.specs.History.{forwarded_to, sent_count, next_for, GivesOwnAnswers}
use Rattle.command.specs.History.{IsFreshIfTagged, walls_of, SendsFreshCommands, if_operates}
use Rattle.command.specs.History.{first_sendings, tag_among, mirror_tag}
use Rattle.command.specs.Calls.{Call, Judge, PutOnLine, Accept, Busy, Lose, Mirror, Own, SendOwn}
use Rattle.command.specs.Calls.{Cut, Due, Run, after_call, run, after_sending, after_answer}
use Rattle.command.proofs.ReadAlike.{none_left, tagged_read, operates_read, objects_read}
use Rattle.command.proofs.Staying.{judging_leaves_sendings, mirroring_leaves_sendings}
use Rattle.command.proofs.Runs.{Holds, run_holds, next_is_of}

-- ---- what goes out was fresh

false_is_true : {A : Type 0} → false ≡ true → A
false_is_true h = absurd (search (rules, h))

by_fresh : (most : ℕ) (xs : List ℕ) (wall : Option ℕ) (v : Verdict) → verdict_of (tag_of xs) ≡ v
    → is_fresh most wall v ≡ true → IsFresh most wall xs
by_fresh most xs (Some clock) (verdicts.Good instant) e h =
    let p : _ = and_parts (nat_le clock (instant + most)) (nat_le instant (clock + most)) h in
    record {
      instant = instant;
      good = e;
      clock = clock;
      known = refl;
      not_old =
          leb-true clock (instant + most) p.0;
      not_ahead = leb-true instant (clock + most) p.1;
    }
by_fresh most xs (Some clock) verdicts.MarkedInvalid e h = false_is_true h
by_fresh most xs (Some clock) verdicts.OutOfRange e h = false_is_true h
by_fresh most xs (Some clock) verdicts.NoSuchDay e h = false_is_true h
by_fresh most xs (Some clock) verdicts.WrongWeekday e h = false_is_true h
by_fresh most xs None v e h = false_is_true h

is_on : (a b c : Bool) → a ≡ true → b ≡ true → (a && b && not c) ≡ false → c ≡ true
is_on true true true h i e = refl
is_on true true false h i e = sym e
is_on true false c h i e = false_is_true i
is_on false b c h i e = false_is_true h

module _ (sizes : Sizes) (stations : List StationInfo) (ms age : ℕ) where
  abbrev Fresh : Option ℕ → List ℕ → Type 0
  Fresh wall xs = IsFreshIfTagged sizes stations ms age wall xs

  -- nothing is wrong with it, so it is fresh
  fresh_of : (wall : Option ℕ) (xs : List ℕ) → cause_of_fault sizes stations age wall xs ≡ None
      → Fresh wall xs
  fresh_of wall xs h tagged active =
      let a : _ = none_left _ 44 _ h in
      let b : _ = none_left _ 45 _ a.1 in
      let c : _ = none_left _ 46 _ b.1 in
      let d : _ = none_left _ 47 _ c.1 in
      let e : _ = none_left _ (negative_of xs) _ d.1 in
      let f : _ = none_left _ (negative_of xs) _ e.1 in
      let g : _ = none_left _ (negative_of xs) _ f.1 in
      by_fresh age xs wall (verdict_of (tag_of xs)) refl
      (is_on (has_tag (slice_index xs 0)) (is_activation xs)
      (is_fresh age wall (verdict_of (tag_of xs))) tagged active g.0)

  -- each of these came at the moment of the wall beside it, and was fresh then
  abbrev AreFresh : List (List ℕ) → List (Option ℕ) → Type 0
  AreFresh [] [] = Unit {0}
  AreFresh (xs ∷ xss) (wall ∷ walls) = Fresh wall xs × AreFresh xss walls
  AreFresh [] (wall ∷ walls) = ⊥
  AreFresh (xs ∷ xss) [] = ⊥

  one_more : (xss : List (List ℕ)) (walls : List (Option ℕ)) (xs : List ℕ) (wall : Option ℕ)
      → AreFresh xss walls
      → Fresh wall xs → AreFresh (xss ++ xs ∷ []) (walls ++ wall ∷ [])
  one_more [] [] xs wall a f = (f, tt)
  one_more (ys ∷ yss) (w ∷ ws) xs wall a f = (a.0, one_more yss ws xs wall a.1 f)
  one_more [] (w ∷ ws) xs wall a f = absurd a
  one_more (ys ∷ yss) [] xs wall a f = absurd a

  if_more : (b : Bool) (xss : List (List ℕ)) (walls : List (Option ℕ)) (xs : List ℕ)
      (wall : Option ℕ)
      → AreFresh xss walls → Fresh wall xs
      → AreFresh (if b then xss ++ xs ∷ [] else xss) (if b then walls ++ wall
      ∷ [] else walls)
  if_more true xss walls xs wall a f = one_more xss walls xs wall a f
  if_more false xss walls xs wall a f = a

  all_fresh : (k : ℕ) (h : History) → GivesOwnAnswers sizes stations ms age h
      → AreFresh (forwarded_to sizes stations ms age k h) (walls_of sizes stations ms age k h)
  all_fresh k [] g = tt
  all_fresh k (Judged now wall xs None ∷ h) g = if_more (is_for sizes stations ms age k xs)
      (forwarded_to sizes stations ms age k h) (walls_of sizes stations ms age k h) xs wall
      (all_fresh k h g.1)
      (fresh_of wall xs g.0)
  all_fresh k (Judged now wall xs (Some a) ∷ h) g = all_fresh k h g.1
  all_fresh k (Sent j octets ∷ h) g = all_fresh k h g
  all_fresh k (Accepted j ∷ h) g = all_fresh k h g
  all_fresh k (Refused j a ∷ h) g = all_fresh k h g.1
  all_fresh k (GivenUp j b ∷ h) g = all_fresh k h g.1
  all_fresh k (Mirrored now v ∷ h) g = all_fresh k h g
  all_fresh k (Offered octets kept ∷ h) g = all_fresh k h g
  all_fresh k (Answered octets ∷ h) g = all_fresh k h g
  all_fresh k (Ended ∷ h) g = tt

  fresh_at : (n : ℕ) (xss : List (List ℕ)) (walls : List (Option ℕ)) → AreFresh xss walls
      → (xs : List ℕ)
      → first (drop n xss) ≡ Some xs → Fresh (first_known (drop n walls)) xs
  fresh_at zero [] walls a xs e = cc
  fresh_at (suc n) [] walls a xs e = cc
  fresh_at zero (ys ∷ yss) (w ∷ ws) a xs e = (let same : ys ≡ xs = cc in
      subst (λ (zs : List ℕ). Fresh w zs) same a.0)
  fresh_at (suc n) (ys ∷ yss) (w ∷ ws) a xs e = fresh_at n yss ws a.1 xs e
  fresh_at n (ys ∷ yss) [] a xs e = absurd a

  sends_fresh : (h : History) → GivesOwnAnswers sizes stations ms age h
      → SendsFreshCommands sizes stations ms age h
  sends_fresh [] g = tt
  sends_fresh (Judged now wall xs None ∷ h) g = sends_fresh h g.1
  sends_fresh (Judged now wall xs (Some a) ∷ h) g = sends_fresh h g.1
  sends_fresh (Sent k octets ∷ h) g = (
    λ xs e. fresh_at (sent_count sizes stations ms age k h) (forwarded_to sizes stations ms age k h)
        (walls_of sizes stations ms age k h) (all_fresh k h g) xs e,
    sends_fresh h g,
  )
  sends_fresh (Accepted j ∷ h) g = sends_fresh h g
  sends_fresh (Refused j a ∷ h) g = sends_fresh h g.1
  sends_fresh (GivenUp j b ∷ h) g = sends_fresh h g.1
  sends_fresh (Mirrored now v ∷ h) g = sends_fresh h g
  sends_fresh (Offered octets kept ∷ h) g = sends_fresh h g
  sends_fresh (Answered octets ∷ h) g = sends_fresh h g
  sends_fresh (Ended ∷ h) g = sends_fresh h g

pub run_fresh : (stations : List StationInfo) (sizes : Sizes) (ms age : ℕ) (calls : List Call)
    → SendsFreshCommands sizes stations ms age (run stations sizes ms age calls).history
run_fresh stations sizes ms age calls =
    sends_fresh sizes stations ms age (run stations sizes ms age calls).history
    (run_holds sizes stations ms age calls).keeps.rightly

-- ---- the latest sixteen

-- the last n, the newest first, are the first n of all, the newest first
kept_reversed : {X : Type 0} (n : ℕ) (xs : List X) → reverse (drop (length xs - n) xs)
    ≡ take n (reverse xs)
kept_reversed n xs = by (nat_le n (length xs)) refl
  where
    parts : reverse xs ≡ reverse (drop (length xs - n) xs) ++ reverse (take (length xs - n) xs)
    parts = ap reverse (sym (take-append-drop (length xs - n) xs))
        ∙ reverse-append (take (length xs - n) xs) (drop (length xs - n) xs)

    size : length (reverse (drop (length xs - n) xs)) ≡ length xs - (length xs - n)
    size = length-reverse (drop (length xs - n) xs) ∙ length-drop (length xs - n) xs

    by : (b : Bool) → nat_le n (length xs) ≡ b → reverse (drop (length xs - n) xs)
        ≡ take n (reverse xs)
    by true e =
        let low : n ≤ length xs = leb-true n (length xs) e in
        let whole : n ≤ length (reverse (drop (length xs - n) xs)) = omega (arith, low, size) in
        let small : length (reverse (drop (length xs - n) xs)) ≤ n = omega (arith, low, size) in
        sym (ap (λ ys. take n ys) parts
        ∙ (take-append-le n (reverse (drop (length xs - n) xs)) (reverse (take (length xs - n) xs))
        whole
        ∙ take_all n (reverse (drop (length xs - n) xs)) small))
    by false e =
        let none : length xs - n ≡ 0 = grind (arith, e) in
        let small : length (reverse xs) ≤ n = (let s = length-reverse xs in grind (arith, e, s)) in
        ap (λ m. reverse (drop m xs)) none ∙ sym (take_all n (reverse xs) small)

fewer : {X Y : Type 0} (f : X → Y) (n : ℕ) (xs : List X) → take n (map f (take (suc n) xs))
    ≡ map f (take n xs)
fewer f zero xs = refl
fewer f (suc n) [] = refl
fewer f (suc n) (x ∷ xs) = ap (λ ys. f x ∷ ys) (fewer f n xs)

noting : (xs : List ℕ) (zs : List Sending) (xss : List (List ℕ)) → reverse zs
    ≡ map sending_of (take 16 xss)
    → (b : Bool) → is_process_command (line_kind (slice_index xs 0)) ≡ b →
    reverse (with_sending xs zs) ≡ map sending_of (take 16 ((if b then xs ∷ [] else []) ++ xss))
noting xs zs xss n true e =
    ap
    (λ (c : Bool). reverse (if c then drop (length (zs ++ sending_of xs ∷ []) - 16)
    (zs ++ sending_of xs
    ∷ []) else zs)) e
    ∙ (kept_reversed 16 (zs ++ sending_of xs ∷ [])
    ∙ (ap (λ ys. take 16 ys) (reverse-append zs (sending_of xs ∷ []))
    ∙ ap (λ ys. sending_of xs ∷ ys) (ap (λ ys. take 15 ys) n ∙ fewer sending_of 15 xss)))
noting xs zs xss n false e =
    ap
    (λ (c : Bool). reverse (if c then drop (length (zs ++ sending_of xs ∷ []) - 16)
    (zs ++ sending_of xs
    ∷ []) else zs)) e ∙ n

module _ (sizes : Sizes) (stations : List StationInfo) (ms age : ℕ) where
  -- what is kept are the latest sixteen first sendings
  abbrev AreKept : List Sending → History → Type 0
  AreKept zs h = reverse zs ≡ map sending_of (take 16 (first_sendings sizes stations ms age h))

  sends : (k : ℕ) (r : Run) → Holds sizes stations ms age r → (o : Option Waiting)
      → oldest k r.state.waiting ≡ o
      → AreKept r.state.sendings r.history
      → AreKept (after_sending o k r).state.sendings (after_sending o k r).history
  sends k r holds None e n = n
  sends k r holds (Some w) e n =
      let next : next_for sizes stations ms age k r.history ≡ Some w.received =
      next_is_of sizes stations ms age r.state.waiting r.history k w holds.keeps.queue e in
      ap (λ (o : Option Waiting). reverse (state.put_out o k r.state).sendings) e
      ∙ (noting w.received r.state.sendings (first_sendings sizes stations ms age r.history) n
      (operates w.received)
      (operates_read w.received)
      ∙ ap (λ (o : Option (List ℕ)). map sending_of (take 16 (if_operates o
      ++ first_sendings sizes stations ms age r.history))) (sym next))

  offers : (octets : List ℕ) (r : Run) (b : Bool) → AreKept r.state.sendings r.history
      → AreKept (if b then state.kept octets r.state else r.state).sendings r.history
  offers octets r true n = n
  offers octets r false n = n

  gives : (r : Run) (o : Option (List ℕ)) → AreKept r.state.sendings r.history
      → AreKept (after_answer o r).state.sendings (after_answer o r).history
  gives r None n = n
  gives r (Some octets) n = n

  step_kept : (call : Call) (r : Run) → Holds sizes stations ms age r
      → AreKept r.state.sendings r.history
      → AreKept (after_call call r).state.sendings (after_call call r).history
  step_kept (Judge xs now wall) r holds n = ap (λ (zs : List Sending). reverse zs)
      (judging_leaves_sendings xs now wall r.state) ∙ n
  step_kept (PutOnLine k) r holds n = sends k r holds (oldest k r.state.waiting) refl n
  step_kept (Accept k) r holds n = n
  step_kept (Busy k) r holds n = n
  step_kept (Lose k) r holds n = n
  step_kept (Mirror v now) r holds n =
      ap (λ (zs : List Sending). reverse zs) (mirroring_leaves_sendings v now r.state)
      ∙ n
  step_kept (Own octets) r holds n = offers octets r (has_answer_place r.state) n
  step_kept SendOwn r holds n = gives r (first_answer r.state.answers) n
  step_kept Cut r holds n = refl
  step_kept (Due now) r holds n = n

  run_kept : (calls : List Call) → AreKept (run stations sizes ms age calls).state.sendings
      (run stations sizes ms age calls).history
  run_kept [] = refl
  run_kept (call ∷ earlier) = step_kept call (run stations sizes ms age earlier)
      (run_holds sizes stations ms age earlier) (run_kept earlier)

-- ---- the newest tag

-- the tag of the first with this target
abbrev first_tag : Target → Option Cp56 → List Sending → Option Cp56
first_tag target found [] = found
first_tag target found (z ∷ zs) = if same_target z.target target then z.tag
    else first_tag target found zs

first_last : (target : Target) (found : Option Cp56) (ys : List Sending) (z : Sending)
    → first_tag target found (ys ++ z ∷ []) ≡ first_tag target (if same_target z.target target
    then z.tag else found) ys
first_last target found [] z = refl
first_last target found (y ∷ ys) z = ap (λ (o : Option Cp56). if same_target y.target target
    then y.tag else o)
    (first_last target found ys z)

newest_first : (target : Target) (found : Option Cp56) (zs : List Sending)
    → newest_tag target found zs ≡ first_tag target found (reverse zs)
newest_first target found [] = refl
newest_first target found (z ∷ zs) =
    newest_first target (if same_target z.target target then z.tag else found) zs
    ∙ (sym (first_last target found (reverse zs) z)
    ∙ ap (λ (ys : List Sending). first_tag target found ys)
    (sym (reverse-append (z ∷ []) zs)))

abbrev octets_of : Option Cp56 → Option (List ℕ)
octets_of tag = option_map (λ (t : Cp56). t.0) tag

tag_read : (xs : List ℕ) → octets_of (tag_at xs) ≡ tag_if_any xs
tag_read xs = by (is_tagged (slice_index xs 0)) ∙ ap (λ (b : Bool). if b then Some (tag_of xs)
    else None)
    (tagged_read (slice_index xs 0))
  where
    by : (b : Bool) → octets_of (if b then Some (record { 0 = tag_octets xs }) else None)
        ≡ (if b then Some (tag_of xs) else None)
    by true = refl
    by false = refl

among : (v : AsduValue) (i : Info) (xss : List (List ℕ))
    → octets_of (first_tag (target_at v i) None (map sending_of xss)) ≡ tag_among xss v i
among v i [] = refl
among v i (xs ∷ xss) =
    ap (λ (b : Bool). octets_of (if b then tag_at xs
    else first_tag (target_at v i) None (map sending_of xss)))
    (objects_read xs v i) ∙ by (among v i xss) (is_object_of xs v i)
  where
    by : octets_of (first_tag (target_at v i) None (map sending_of xss)) ≡ tag_among xss v i
        → (b : Bool)
        → octets_of (if b then tag_at xs else first_tag (target_at v i) None (map sending_of xss))
        ≡ (if b then tag_if_any xs else tag_among xss v i)
    by rest true = tag_read xs
    by rest false = rest

pub run_tags : (stations : List StationInfo) (sizes : Sizes) (ms age : ℕ) (calls : List Call)
    (v : AsduValue)
    → option_map (λ (t : Cp56). t.0) (tag_for v v.infos (run stations sizes ms age calls).state)
    ≡ mirror_tag sizes stations ms age v v.infos (run stations sizes ms age calls).history
run_tags stations sizes ms age calls v = by v.infos
  where
    by : (is : List Info) → octets_of (tag_for v is (run stations sizes ms age calls).state)
        ≡ mirror_tag sizes stations ms age v is (run stations sizes ms age calls).history
    by [] = refl
    by (i ∷ []) =
        ap octets_of
        (newest_first (target_at v i) None (run stations sizes ms age calls).state.sendings
        ∙ ap (λ (zs : List Sending). first_tag (target_at v i) None zs)
        (run_kept sizes stations ms age calls))
        ∙ among v i
        (take 16 (first_sendings sizes stations ms age (run stations sizes ms age calls).history))
    by (i ∷ j ∷ is) = refl
