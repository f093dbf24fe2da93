-- A selected execute passes: for each select that stands a selection is kept, as far as it has
-- come.
use Rattle.std.proofs.Common.{◌≡◌, ℕ, zero, suc, ◌+◌, ◌-◌, ◌<◌, ◌≤◌, ◌&&◌, ◌||◌, Bool, true, false}
use Rattle.std.proofs.Common.{List, [], ◌∷◌, ◌++◌, refl, sym, ap, ◌∙◌, arith, rules}
use Rattle.std.specs.Prelude.{◌==◌, Option, Some, None, if◌then◌else◌, nat_lt, nat_le}
use Rattle.std.specs.List.{filter_map, list_any, cons_option}
use Rattle.std.proofs.lemmas.Bool.{and_parts, eqb-true, ltb-true, leb-true}
use Rattle.asdu.specs.Asdu.{AsduValue}
use Rattle.asdu.specs.declared.sizes.Sizes.{Sizes}
use Rattle.command.specs.declared.content.Command.{Command}
use Rattle.command.specs.declared.station.StationInfo.{StationInfo}
use Rattle.command.specs.declared.selection.Selection.{Selection}
use Rattle.command.specs.declared.selection.SelectStage.{SelectStage}
use Rattle.command.specs.declared.selection.SelectStage.TheVariants as stage
use Rattle.command.specs.declared.selection.Sign.{Sign}
use Rattle.command.specs.declared.selection.Sign.TheVariants as sign
use Rattle.command.specs.Selection.{advanced, lasts_from, is_accepted}
use Rattle.command.specs.History.{Judged, Sent, Accepted, Refused, GivenUp, Mirrored, Offered}
use Rattle.command.specs.History.{Answered, Ended, History, sent_count, place_on_line}
use Rattle.command.specs.History.{is_accepted_at, is_place}
use Rattle.command.proofs.Machine.{Select, confirmed_at, station_of, confirms}
use Rattle.command.proofs.Sendings.{same}

-- ---- membership

pub data OneOf (A B : Type 0) : Type 0 where
  This : A → OneOf A B
  That : B → OneOf A B

abbrev pub Kept : Selection → List Selection → Type 0
Kept y [] = ⊥
Kept y (x ∷ xs) = OneOf (x ≡ y) (Kept y xs)

this_joined : (y : Selection) (o : Option Selection) (ys : List Selection) → o ≡ Some y
    → Kept y (cons_option o ys)
this_joined y None ys e = cc
this_joined y (Some x) ys e = (let is : x ≡ y = cc in This is)

that_joined : (y : Selection) (o : Option Selection) (ys : List Selection) → Kept y ys
    → Kept y (cons_option o ys)
that_joined y None ys h = h
that_joined y (Some x) ys h = That h

pub kept_mapped : (f : Selection → Option Selection) (y z : Selection) → f y ≡ Some z
    → (xs : List Selection)
    → Kept y xs → Kept z (filter_map f xs)
kept_mapped f y z e [] h = absurd h
kept_mapped f y z e (x ∷ xs) (This s) = this_joined z (f x) (filter_map f xs) (ap f s ∙ e)
kept_mapped f y z e (x ∷ xs) (That h) =
    that_joined z (f x) (filter_map f xs) (kept_mapped f y z e xs h)

pub kept_append : (y : Selection) (xs ys : List Selection) → Kept y xs → Kept y (xs ++ ys)
kept_append y [] ys h = absurd h
kept_append y (x ∷ xs) ys (This s) = This s
kept_append y (x ∷ xs) ys (That h) = That (kept_append y xs ys h)

pub kept_last : (y : Selection) (xs : List Selection) → Kept y (xs ++ y ∷ [])
kept_last y [] = This refl
kept_last y (x ∷ xs) = That (kept_last y xs)

pub or_true : (a b : Bool) → b ≡ true → (a || b) ≡ true
or_true true b h = refl
or_true false b h = h

pub kept_passes : (p : Selection → Bool) (y : Selection) (xs : List Selection) → p y ≡ true
    → Kept y xs
    → list_any p xs ≡ true
kept_passes p y [] e h = absurd h
kept_passes p y (x ∷ xs) e (This s) = rw (ap p s ∙ e) refl
kept_passes p y (x ∷ xs) e (That h) = or_true (p x) (list_any p xs) (kept_passes p y xs e h)

pub some_is : (n m : ℕ) → Some n ≡ Some m → n ≡ m
some_is n m h = cc

pub none_is_some : {A : Type 0} (n : ℕ) → None ≡ Some n → A
none_is_some n h = absurd (search (rules, h))

pub false_is_true : {A : Type 0} → false ≡ true → A
false_is_true h = absurd (search (rules, h))

is_at : (p : ℕ) (o : Option ℕ) → is_place p o ≡ true → o ≡ Some p
is_at p None h = false_is_true h
is_at p (Some n) h = ap (λ (m : ℕ). Some m) (eqb-true n p h)

module _ (sizes : Sizes) (stations : List StationInfo) (select_ms max_age_ms : ℕ) where
  abbrev pub count : ℕ → History → ℕ
  count k h = sent_count sizes stations select_ms max_age_ms k h

  abbrev pub place_at : ℕ → History → Option ℕ
  place_at k h = place_on_line sizes stations select_ms max_age_ms k h

  abbrev pub accepted_at : ℕ → ℕ → History → Bool
  accepted_at k p h = is_accepted_at sizes stations select_ms max_age_ms k p h

  abbrev pub confirmed : Select → History → Option ℕ
  confirmed z h = confirmed_at sizes stations select_ms max_age_ms z h

  abbrev pub home : Command → ℕ
  home c = station_of sizes stations select_ms max_age_ms c

  -- ---- what stands on the line, or was accepted, went out before

  sent_below : (k j p : ℕ) (h : History) (b : Bool) → (place_at k h ≡ Some p → p < count k h)
      → (if b then Some (count k h) else place_at k h) ≡ Some p
      → p < (if b then suc (count k h) else count k h)
  sent_below k j p h true hyp e = (let is : count k h ≡ p = some_is (count k h) p e in
      omega (arith, is))
  sent_below k j p h false hyp e = hyp e

  done_below : (k p : ℕ) (h : History) (b : Bool) → (place_at k h ≡ Some p → p < count k h)
      → (if b then None else place_at k h) ≡ Some p → p < count k h
  done_below k p h true hyp e = none_is_some p e
  done_below k p h false hyp e = hyp e

  pub line_below : (k p : ℕ) (h : History) → place_at k h ≡ Some p → p < count k h
  line_below k p [] e = none_is_some p e
  line_below k p (Judged now wall xs a ∷ h) e = line_below k p h e
  line_below k p (Sent j octets ∷ h) e = sent_below k j p h (k == j) (line_below k p h) e
  line_below k p (Accepted j ∷ h) e = done_below k p h (k == j) (line_below k p h) e
  line_below k p (Refused j a ∷ h) e = done_below k p h (k == j) (line_below k p h) e
  line_below k p (GivenUp j b ∷ h) e = done_below k p h (k == j) (line_below k p h) e
  line_below k p (Mirrored now v ∷ h) e = line_below k p h e
  line_below k p (Offered octets b ∷ h) e = line_below k p h e
  line_below k p (Answered octets ∷ h) e = line_below k p h e
  line_below k p (Ended ∷ h) e = none_is_some p e

  more_below : (p n : ℕ) (b : Bool) → p < n → p < (if b then suc n else n)
  more_below p n true h = omega (arith, h)
  more_below p n false h = h

  either_below : (k j p : ℕ) (h : History) (b c : Bool) → (place_at k h ≡ Some p → p < count k h)
      → is_place p (place_at k h) ≡ c → (accepted_at k p h ≡ true → p < count k h)
      → ((b && c) || accepted_at k p h) ≡ true → p < count k h
  either_below k j p h true true line at old e = line (is_at p (place_at k h) at)
  either_below k j p h true false line at old e = old e
  either_below k j p h false c line at old e = old e

  pub accepted_below : (k p : ℕ) (h : History) → accepted_at k p h ≡ true → p < count k h
  accepted_below k p [] e = false_is_true e
  accepted_below k p (Judged now wall xs a ∷ h) e = accepted_below k p h e
  accepted_below k p (Sent j octets ∷ h) e =
      more_below p (count k h) (k == j) (accepted_below k p h e)
  accepted_below k p (Accepted j ∷ h) e = either_below k j p h (k == j) (is_place p (place_at k h))
      (line_below k p h) refl (accepted_below k p h) e
  accepted_below k p (Refused j a ∷ h) e = accepted_below k p h e
  accepted_below k p (GivenUp j b ∷ h) e = accepted_below k p h e
  accepted_below k p (Mirrored now v ∷ h) e = accepted_below k p h e
  accepted_below k p (Offered octets b ∷ h) e = accepted_below k p h e
  accepted_below k p (Answered octets ∷ h) e = accepted_below k p h e
  accepted_below k p (Ended ∷ h) e = false_is_true e

  -- what was confirmed was accepted
  mirror_accepted : (z : Select) (now m : ℕ) (h : History) (a b : Bool)
      → accepted_at (home z.command) z.place h ≡ b
      → (confirmed z h ≡ Some m → accepted_at (home z.command) z.place h ≡ true)
      → (if a && b then Some now else confirmed z h) ≡ Some m
      → accepted_at (home z.command) z.place h ≡ true
  mirror_accepted z now m h true true at hyp e = at
  mirror_accepted z now m h true false at hyp e = hyp e
  mirror_accepted z now m h false b at hyp e = hyp e

  pub confirmed_accepted : (z : Select) (m : ℕ) (h : History) → confirmed z h ≡ Some m
      → accepted_at (home z.command) z.place h ≡ true
  confirmed_accepted z m [] e = none_is_some m e
  confirmed_accepted z m (Judged now wall xs a ∷ h) e = confirmed_accepted z m h e
  confirmed_accepted z m (Sent j octets ∷ h) e = confirmed_accepted z m h e
  confirmed_accepted z m (Accepted j ∷ h) e = or_true _ _ (confirmed_accepted z m h e)
  confirmed_accepted z m (Refused j a ∷ h) e = confirmed_accepted z m h e
  confirmed_accepted z m (GivenUp j b ∷ h) e = confirmed_accepted z m h e
  confirmed_accepted z m (Mirrored now v ∷ h) e = mirror_accepted z now m h (confirms z.command v
      && nat_lt (now - z.came) select_ms) (accepted_at (home z.command) z.place h) refl
      (confirmed_accepted z m h) e
  confirmed_accepted z m (Offered octets b ∷ h) e = confirmed_accepted z m h e
  confirmed_accepted z m (Answered octets ∷ h) e = confirmed_accepted z m h e
  confirmed_accepted z m (Ended ∷ h) e = none_is_some m e

  pub none_by : (z : Select) (h : History) (o : Option ℕ) → confirmed z h ≡ o
      → accepted_at (home z.command) z.place h ≡ false → confirmed z h ≡ None
  none_by z h None e f = e
  none_by z h (Some m) e f = false_is_true (sym f ∙ confirmed_accepted z m h e)

  not_below : (k p : ℕ) (h : History) (b : Bool) → accepted_at k p h ≡ b → count k h ≤ p
      → accepted_at k p h ≡ false
  not_below k p h true e l = absurd (let less : p < count k h = accepted_below k p h e in
      omega (arith, less, l))
  not_below k p h false e l = e

  not_on_line : (k p : ℕ) (h : History) (b : Bool) → is_place p (place_at k h) ≡ b → count k h ≤ p
      → is_place p (place_at k h) ≡ false
  not_on_line k p h true e l =
      absurd (let less : p < count k h = line_below k p h (is_at p (place_at k h) e) in
      omega (arith, less, l))
  not_on_line k p h false e l = e

  -- ---- how far a select has come

  abbrev pub at : Select → SelectStage → Selection
  at z st = record { station = home z.command; command = z.command; came = z.came; stage = st }

  -- in the history it has come so far, and a selection is kept that says so; or it can't come
  -- further, or its
  -- time has passed
  pub data Found (h : History) (latest : ℕ) (zs : List Selection) (z : Select) : Type 0 where
    Waits : (n : ℕ) → z.place ≡ count (home z.command) h + n → Kept (at z (stage.Queued n)) zs
        → Found h latest zs z
    Goes : place_at (home z.command) h ≡ Some z.place → accepted_at (home z.command) z.place h
        ≡ false
        → Kept (at z stage.Sent) zs → Found h latest zs z
    Taken : accepted_at (home z.command) z.place h ≡ true → confirmed z h ≡ None
        → Kept (at z stage.Accepted) zs
        → Found h latest zs z
    Lives : (m : ℕ) → z.came ≤ m → confirmed z h ≡ Some m → Kept (at z (stage.Live m)) zs
        → Found h latest zs z
    Gone : z.place < count (home z.command) h → is_place z.place (place_at (home z.command) h)
        ≡ false
        → accepted_at (home z.command) z.place h ≡ false → Found h latest zs z
    Late : confirmed z h ≡ None → select_ms ≤ latest - z.came → Found h latest zs z
    Past : (m : ℕ) → z.came ≤ m → confirmed z h ≡ Some m → select_ms ≤ latest - m
        → Found h latest zs z

  abbrev pub After : Sign → List Selection → List Selection
  After what zs = filter_map (advanced select_ms what) zs

  pub waits_none : (z : Select) (h : History) (n : ℕ) → z.place ≡ count (home z.command) h + n
      → accepted_at (home z.command) z.place h ≡ false
  waits_none z h n e = not_below (home z.command) z.place h (accepted_at (home z.command) z.place h)
      refl
      (omega (arith, e))

  -- ---- a first sending

  pub sent_at : (h : History) (latest : ℕ) (zs : List Selection) (octets : List ℕ) (j : ℕ)
      (z : Select) (b : Bool)
      → (home z.command == j) ≡ b → Found h latest zs z
      → Found (Sent j octets ∷ h) latest (After (sign.Sending j) zs) z
  sent_at h latest zs octets j z true e (Waits zero p k) =
      let at_front : count (home z.command) h ≡ z.place = omega (arith, p) in
      Goes (rw e (ap (λ (n : ℕ). Some n) at_front)) (waits_none z h zero p)
      (kept_mapped (advanced select_ms (sign.Sending j)) _ _ (rw e refl) zs k)
  sent_at h latest zs octets j z true e (Waits (suc n) p k) =
      let off : (suc n == 0) ≡ false = grind arith in
      let less : suc n - 1 ≡ n = omega arith in
      let more : z.place ≡ suc (count (home z.command) h) + n = omega (arith, p) in
      Waits n (rw e more) (kept_mapped (advanced select_ms (sign.Sending j)) _ _
      (rw (e, off, less) refl) zs k)
  sent_at h latest zs octets j z true e (Goes p a k) =
      let below : z.place < count (home z.command) h = line_below (home z.command) z.place h p in
      let less : z.place < suc (count (home z.command) h) = omega (arith, below) in
      let off : (count (home z.command) h == z.place) ≡ false = grind (arith, below) in
      Gone (rw e less) (rw e off) a
  sent_at h latest zs octets j z true e (Taken a c k) =
      Taken a c (kept_mapped (advanced select_ms (sign.Sending j)) _ _ (rw e refl) zs k)
  sent_at h latest zs octets j z true e (Lives m l c k) =
      Lives m l c (kept_mapped (advanced select_ms (sign.Sending j)) _ _ (rw e refl) zs k)
  sent_at h latest zs octets j z true e (Gone below p a) =
      let less : z.place < suc (count (home z.command) h) = omega (arith, below) in
      let off : (count (home z.command) h == z.place) ≡ false = grind (arith, below) in
      Gone (rw e less) (rw e off) a
  sent_at h latest zs octets j z true e (Late c l) = Late c l
  sent_at h latest zs octets j z true e (Past m l c t) = Past m l c t
  sent_at h latest zs octets j z false e (Waits n p k) =
      Waits n (rw e p) (kept_mapped (advanced select_ms (sign.Sending j)) _ _ (rw e refl) zs k)
  sent_at h latest zs octets j z false e (Goes p a k) =
      Goes (rw e p) a (kept_mapped (advanced select_ms (sign.Sending j)) _ _ (rw e refl) zs k)
  sent_at h latest zs octets j z false e (Taken a c k) =
      Taken a c (kept_mapped (advanced select_ms (sign.Sending j)) _ _ (rw e refl) zs k)
  sent_at h latest zs octets j z false e (Lives m l c k) =
      Lives m l c (kept_mapped (advanced select_ms (sign.Sending j)) _ _ (rw e refl) zs k)
  sent_at h latest zs octets j z false e (Gone below p a) = Gone (rw e below) (rw e p) a
  sent_at h latest zs octets j z false e (Late c l) = Late c l
  sent_at h latest zs octets j z false e (Past m l c t) = Past m l c t

  -- ---- the station accepted the command on its line

  pub accepted_found : (h : History) (latest : ℕ) (zs : List Selection) (j : ℕ) (z : Select)
      (b : Bool)
      → (home z.command == j) ≡ b → Found h latest zs z
      → Found (Accepted j ∷ h) latest (After (sign.Acceptance j) zs) z
  accepted_found h latest zs j z true e (Waits n p k) =
      Waits n p (kept_mapped (advanced select_ms (sign.Acceptance j)) _ _ (rw e refl) zs k)
  accepted_found h latest zs j z true e (Goes p a k) =
      Taken (rw (e, p, same z.place) refl) (none_by z h (confirmed z h) refl a)
      (kept_mapped (advanced select_ms (sign.Acceptance j)) _ _ (rw e refl) zs k)
  accepted_found h latest zs j z true e (Taken a c k) =
      Taken (or_true _ _ a) c (kept_mapped (advanced select_ms (sign.Acceptance j)) _ _ (rw e refl)
      zs k)
  accepted_found h latest zs j z true e (Lives m l c k) =
      Lives m l c (kept_mapped (advanced select_ms (sign.Acceptance j)) _ _ (rw e refl) zs k)
  accepted_found h latest zs j z true e (Gone below p a) = Gone below (rw e refl) (rw (e, p) a)
  accepted_found h latest zs j z true e (Late c l) = Late c l
  accepted_found h latest zs j z true e (Past m l c t) = Past m l c t
  accepted_found h latest zs j z false e (Waits n p k) =
      Waits n p (kept_mapped (advanced select_ms (sign.Acceptance j)) _ _ (rw e refl) zs k)
  accepted_found h latest zs j z false e (Goes p a k) =
      Goes (rw e p) (rw e a) (kept_mapped (advanced select_ms (sign.Acceptance j)) _ _ (rw e refl)
      zs k)
  accepted_found h latest zs j z false e (Taken a c k) =
      Taken (or_true _ _ a) c (kept_mapped (advanced select_ms (sign.Acceptance j)) _ _ (rw e refl)
      zs k)
  accepted_found h latest zs j z false e (Lives m l c k) =
      Lives m l c (kept_mapped (advanced select_ms (sign.Acceptance j)) _ _ (rw e refl) zs k)
  accepted_found h latest zs j z false e (Gone below p a) = Gone below (rw e p) (rw e a)
  accepted_found h latest zs j z false e (Late c l) = Late c l
  accepted_found h latest zs j z false e (Past m l c t) = Past m l c t

  -- ---- the command on the line is done without being accepted

  pub refused_found : (h : History) (latest : ℕ) (zs : List Selection) (j : ℕ)
      (answer : Option (List ℕ)) (z : Select)
      (b : Bool) → (home z.command == j) ≡ b → Found h latest zs z
      → Found (Refused j answer ∷ h) latest (After (sign.Loss j) zs) z
  refused_found h latest zs j answer z true e (Waits n p k) =
      Waits n p (kept_mapped (advanced select_ms (sign.Loss j)) _ _ (rw e refl) zs k)
  refused_found h latest zs j answer z true e (Goes p a k) =
      Gone (line_below (home z.command) z.place h p) (rw e refl) a
  refused_found h latest zs j answer z true e (Taken a c k) =
      Taken a c (kept_mapped (advanced select_ms (sign.Loss j)) _ _ (rw e refl) zs k)
  refused_found h latest zs j answer z true e (Lives m l c k) =
      Lives m l c (kept_mapped (advanced select_ms (sign.Loss j)) _ _ (rw e refl) zs k)
  refused_found h latest zs j answer z true e (Gone below p a) = Gone below (rw e refl) a
  refused_found h latest zs j answer z true e (Late c l) = Late c l
  refused_found h latest zs j answer z true e (Past m l c t) = Past m l c t
  refused_found h latest zs j answer z false e (Waits n p k) =
      Waits n p (kept_mapped (advanced select_ms (sign.Loss j)) _ _ (rw e refl) zs k)
  refused_found h latest zs j answer z false e (Goes p a k) =
      Goes (rw e p) a (kept_mapped (advanced select_ms (sign.Loss j)) _ _ (rw e refl) zs k)
  refused_found h latest zs j answer z false e (Taken a c k) =
      Taken a c (kept_mapped (advanced select_ms (sign.Loss j)) _ _ (rw e refl) zs k)
  refused_found h latest zs j answer z false e (Lives m l c k) =
      Lives m l c (kept_mapped (advanced select_ms (sign.Loss j)) _ _ (rw e refl) zs k)
  refused_found h latest zs j answer z false e (Gone below p a) = Gone below (rw e p) a
  refused_found h latest zs j answer z false e (Late c l) = Late c l
  refused_found h latest zs j answer z false e (Past m l c t) = Past m l c t

  pub lost_found : (h : History) (latest : ℕ) (zs : List Selection) (j : ℕ) (there : Bool)
      (z : Select) (b : Bool)
      → (home z.command == j) ≡ b → Found h latest zs z
      → Found (GivenUp j there ∷ h) latest (After (sign.Loss j) zs) z
  lost_found h latest zs j there z true e (Waits n p k) =
      Waits n p (kept_mapped (advanced select_ms (sign.Loss j)) _ _ (rw e refl) zs k)
  lost_found h latest zs j there z true e (Goes p a k) =
      Gone (line_below (home z.command) z.place h p) (rw e refl) a
  lost_found h latest zs j there z true e (Taken a c k) =
      Taken a c (kept_mapped (advanced select_ms (sign.Loss j)) _ _ (rw e refl) zs k)
  lost_found h latest zs j there z true e (Lives m l c k) =
      Lives m l c (kept_mapped (advanced select_ms (sign.Loss j)) _ _ (rw e refl) zs k)
  lost_found h latest zs j there z true e (Gone below p a) = Gone below (rw e refl) a
  lost_found h latest zs j there z true e (Late c l) = Late c l
  lost_found h latest zs j there z true e (Past m l c t) = Past m l c t
  lost_found h latest zs j there z false e (Waits n p k) =
      Waits n p (kept_mapped (advanced select_ms (sign.Loss j)) _ _ (rw e refl) zs k)
  lost_found h latest zs j there z false e (Goes p a k) =
      Goes (rw e p) a (kept_mapped (advanced select_ms (sign.Loss j)) _ _ (rw e refl) zs k)
  lost_found h latest zs j there z false e (Taken a c k) =
      Taken a c (kept_mapped (advanced select_ms (sign.Loss j)) _ _ (rw e refl) zs k)
  lost_found h latest zs j there z false e (Lives m l c k) =
      Lives m l c (kept_mapped (advanced select_ms (sign.Loss j)) _ _ (rw e refl) zs k)
  lost_found h latest zs j there z false e (Gone below p a) = Gone below (rw e p) a
  lost_found h latest zs j there z false e (Late c l) = Late c l
  lost_found h latest zs j there z false e (Past m l c t) = Past m l c t

  -- ---- time

  in_time : (z : Select) (now : ℕ) (st : SelectStage) (zs : List Selection) → Kept (at z st) zs
      → nat_le select_ms (now - lasts_from (at z st) st) ≡ false
      → Kept (at z st) (After (sign.Time now) zs)
  in_time z now st zs k e = kept_mapped (advanced select_ms (sign.Time now)) (at z st) (at z st)
      (rw e refl) zs k

  timed_out : (h : History) (zs : List Selection) (now : ℕ) (z : Select) (st : SelectStage)
      (b : Bool)
      → nat_le select_ms (now - lasts_from (at z st) st) ≡ b → Kept (at z st) zs →
      (Kept (at z st) (After (sign.Time now) zs) → Found h now (After (sign.Time now) zs) z)
      → (select_ms ≤ now - lasts_from (at z st) st → Found h now (After (sign.Time now) zs) z)
      → Found h now (After (sign.Time now) zs) z
  timed_out h zs now z st true e k stays over =
      over (leb-true select_ms (now - lasts_from (at z st) st) e)
  timed_out h zs now z st false e k stays over = stays (in_time z now st zs k e)

  pub timed_found : (h : History) (latest : ℕ) (zs : List Selection) (now : ℕ) (z : Select)
      → latest ≤ now
      → Found h latest zs z → Found h now (After (sign.Time now) zs) z
  timed_found h latest zs now z l (Waits n p k) = timed_out h zs now z (stage.Queued n) _ refl k
      (λ y. Waits n p y)
      (λ t. Late (none_by z h (confirmed z h) refl (waits_none z h n p)) t)
  timed_found h latest zs now z l (Goes p a k) =
      timed_out h zs now z stage.Sent _ refl k (λ y. Goes p a y)
      (λ t. Late (none_by z h (confirmed z h) refl a) t)
  timed_found h latest zs now z l (Taken a c k) = timed_out h zs now z stage.Accepted _ refl k
      (λ y. Taken a c y)
      (λ t. Late c t)
  timed_found h latest zs now z l (Lives m f c k) = timed_out h zs now z (stage.Live m) _ refl k
      (λ y. Lives m f c y)
      (λ t. Past m f c t)
  timed_found h latest zs now z l (Gone below p a) = Gone below p a
  timed_found h latest zs now z l (Late c t) = Late c (omega (arith, l, t))
  timed_found h latest zs now z l (Past m f c t) = Past m f c (omega (arith, l, t))

  -- ---- what is no matter of the select

  pub moved : (h : History) (latest : ℕ) (zs ys : List Selection) (now : ℕ) (wall : Option ℕ)
      (xs : List ℕ)
      (answer : Option (List ℕ)) (z : Select) → latest ≤ now
      → ((st : SelectStage) → Kept (at z st) zs → Kept (at z st) ys)
      → Found h latest zs z → Found (Judged now wall xs answer ∷ h) now ys z
  moved h latest zs ys now wall xs answer z l f (Waits n p k) = Waits n p (f _ k)
  moved h latest zs ys now wall xs answer z l f (Goes p a k) = Goes p a (f _ k)
  moved h latest zs ys now wall xs answer z l f (Taken a c k) = Taken a c (f _ k)
  moved h latest zs ys now wall xs answer z l f (Lives m g c k) = Lives m g c (f _ k)
  moved h latest zs ys now wall xs answer z l f (Gone below p a) = Gone below p a
  moved h latest zs ys now wall xs answer z l f (Late c t) = Late c (omega (arith, l, t))
  moved h latest zs ys now wall xs answer z l f (Past m g c t) = Past m g c (omega (arith, l, t))

  pub offered_found : (h : History) (latest : ℕ) (zs : List Selection) (octets : List ℕ) (b : Bool)
      (z : Select)
      → Found h latest zs z → Found (Offered octets b ∷ h) latest zs z
  offered_found h latest zs octets b z (Waits n p k) = Waits n p k
  offered_found h latest zs octets b z (Goes p a k) = Goes p a k
  offered_found h latest zs octets b z (Taken a c k) = Taken a c k
  offered_found h latest zs octets b z (Lives m f c k) = Lives m f c k
  offered_found h latest zs octets b z (Gone below p a) = Gone below p a
  offered_found h latest zs octets b z (Late c l) = Late c l
  offered_found h latest zs octets b z (Past m f c t) = Past m f c t

  pub answered_found : (h : History) (latest : ℕ) (zs : List Selection) (octets : List ℕ)
      (z : Select)
      → Found h latest zs z → Found (Answered octets ∷ h) latest zs z
  answered_found h latest zs octets z (Waits n p k) = Waits n p k
  answered_found h latest zs octets z (Goes p a k) = Goes p a k
  answered_found h latest zs octets z (Taken a c k) = Taken a c k
  answered_found h latest zs octets z (Lives m f c k) = Lives m f c k
  answered_found h latest zs octets z (Gone below p a) = Gone below p a
  answered_found h latest zs octets z (Late c l) = Late c l
  answered_found h latest zs octets z (Past m f c t) = Past m f c t

  -- ---- a station answered

  -- c: the con confirms the select, in time
  pub heeded : (h : History) (latest : ℕ) (zs ys : List Selection) (now : ℕ) (v : AsduValue)
      (z : Select) (c : Bool)
      → (confirms z.command v && nat_lt (now - z.came) select_ms) ≡ c → latest ≤ now
      → z.came ≤ latest →
      ((st : SelectStage) → (is_accepted st && c) ≡ false → Kept (at z st) zs → Kept (at z st) ys)
      → ((st : SelectStage) → (is_accepted st && c) ≡ true → Kept (at z st) zs
      → Kept (at z (stage.Live now)) ys) →
      Found h latest zs z → Found (Mirrored now v ∷ h) now ys z
  heeded h latest zs ys now v z false e l came stays lives (Waits n p k) =
      Waits n p (stays _ refl k)
  heeded h latest zs ys now v z false e l came stays lives (Goes p a k) = Goes p a (stays _ refl k)
  heeded h latest zs ys now v z false e l came stays lives (Taken a c k) =
      Taken a (rw e c) (stays _ refl k)
  heeded h latest zs ys now v z false e l came stays lives (Lives m f c k) =
      Lives m f (rw e c) (stays _ refl k)
  heeded h latest zs ys now v z false e l came stays lives (Gone below p a) = Gone below p a
  heeded h latest zs ys now v z false e l came stays lives (Late c t) =
      Late (rw e c) (omega (arith, l, t))
  heeded h latest zs ys now v z false e l came stays lives (Past m f c t) =
      Past m f (rw e c) (omega (arith, l, t))
  heeded h latest zs ys now v z true e l came stays lives (Waits n p k) = Waits n p (stays _ refl k)
  heeded h latest zs ys now v z true e l came stays lives (Goes p a k) = Goes p a (stays _ refl k)
  heeded h latest zs ys now v z true e l came stays lives (Taken a c k) =
      Lives now (omega (arith, l, came)) (rw (e, a) refl) (lives _ refl k)
  heeded h latest zs ys now v z true e l came stays lives (Lives m f c k) =
      Lives now (omega (arith, l, came)) (rw (e, confirmed_accepted z m h c) refl) (lives _ refl k)
  heeded h latest zs ys now v z true e l came stays lives (Gone below p a) = Gone below p a
  heeded h latest zs ys now v z true e l came stays lives (Late c t) =
      absurd (let quick : now - z.came < select_ms = ltb-true (now - z.came) select_ms
      (and_parts (confirms z.command v) (nat_lt (now - z.came) select_ms) e).1 in
      omega (arith, l, t, quick))
  heeded h latest zs ys now v z true e l came stays lives (Past m f c t) =
      absurd (let quick : now - z.came < select_ms = ltb-true (now - z.came) select_ms
      (and_parts (confirms z.command v) (nat_lt (now - z.came) select_ms) e).1 in
      omega (arith, l, t, quick, f))
