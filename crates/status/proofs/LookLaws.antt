-- What is noted over many looks.
use Rattle.std.proofs.Common.{◌≡◌, ◌≢◌, ℕ, ◌-◌, ◌<◌, Bool, true, false}
use Rattle.std.proofs.Common.{List, []}
use Rattle.std.proofs.Common.{◌∷◌, ◌++◌, Option, Some, None, is_some, nat_le}
use Rattle.std.proofs.Common.{if◌then◌else◌, refl, sym}
use Rattle.std.proofs.Common.{ap, subst, ◌∙◌, arith, append_assoc}
use Rattle.std.proofs.lemmas.Bool.Decides.{nat_tests}
use Rattle.std.proofs.lemmas.List.{append-nil}
use Rattle.std.specs.List.{AllByRecursion}
use Rattle.live.specs.declared.watched.Notice.{Notice}
use Rattle.status.specs.Looking.{counted, first_of, gone_after, is_over, keeping_by, noted}
use Rattle.status.specs.Looks.{HasCounted, IsClosed, IsSilent, Look, Standing, after_look}
use Rattle.status.specs.Looks.{after_looks, noted_after}
use Rattle.status.specs.Shown.{keeping_after}
use Rattle.status.specs.declared.lookout.ShownRun.{ShownRun}
use Rattle.runlog.specs.Logging.{taken_in}
use Rattle.runlog.specs.declared.ends.OpenConnection.{OpenConnection}

-- Since when the run goes on

begun_stays : (s : ShownRun) (began : ℕ) (looks : List Look) → s.began ≡ Some began
    → (noted_after s looks).began ≡ Some began
begun_stays s began [] is = is
begun_stays s began (l ∷ looks) is =
    begun_stays (noted l.watch l.notice s) began looks
    (ap (λ (o : Option ℕ). Some (first_of o l.watch.moment)) is)

pub has_begun : (s : ShownRun) (first : Look) (later : List Look) → s.began ≡ None
    → (noted_after s (first ∷ later)).began ≡ Some first.watch.moment
has_begun s first later none =
    begun_stays (noted first.watch first.notice s) first.watch.moment later
    (ap (λ (o : Option ℕ). Some (first_of o first.watch.moment)) none)

-- Since when nobody is there

still_gone : (o : Option ℕ) (began : ℕ) (was is : Bool) (now since : ℕ) → o ≡ Some began
    → was ≡ false → gone_after o was is now since ≡ since
still_gone None began was is now since e none = cc
still_gone (Some first) began true is now since e none = cc
still_gone (Some first) began false is now since e none = refl

no_opening : (o : Option OpenConnection) → o ≡ None → is_some o ≡ false
no_opening o is = ap is_some is

an_opening : (o : Option OpenConnection) → o ≢ None → is_some o ≡ true
an_opening None some = absurd (some refl)
an_opening (Some c) some = refl

gone_stays : (s : ShownRun) (began : ℕ) (looks : List Look) → s.began ≡ Some began
    → s.was_open ≡ false → AllByRecursion IsClosed looks
    → (noted_after s looks).gone_since ≡ s.gone_since
gone_stays s began [] is none all = refl
gone_stays s began (l ∷ looks) is none (closed, all) =
    gone_stays (noted l.watch l.notice s) began looks
    (ap (λ (o : Option ℕ). Some (first_of o l.watch.moment)) is)
    (no_opening l.watch.connection.opening closed) all
    ∙ still_gone s.began began s.was_open (is_some l.watch.connection.opening) l.watch.moment
    s.gone_since is none

gone_from : (s : ShownRun) (first : Look) (later : List Look)
    → (noted first.watch first.notice s).gone_since ≡ first.watch.moment → IsClosed first
    → AllByRecursion IsClosed later
    → (noted_after s (first ∷ later)).gone_since ≡ first.watch.moment
gone_from s first later is closed all =
    gone_stays (noted first.watch first.notice s) (first_of s.began first.watch.moment) later refl
    (no_opening first.watch.connection.opening closed) all
    ∙ is

never_there : (o : Option ℕ) (was is : Bool) (now since : ℕ) → o ≡ None
    → gone_after o was is now since ≡ now
never_there None was is now since e = refl
never_there (Some first) was is now since e = cc

pub gone_from_the_first : (s : ShownRun) (first : Look) (later : List Look) → s.began ≡ None
    → IsClosed first → AllByRecursion IsClosed later
    → (noted_after s (first ∷ later)).gone_since ≡ first.watch.moment
gone_from_the_first s first later none closed all =
    gone_from s first later
    (never_there s.began s.was_open (is_some first.watch.connection.opening) first.watch.moment
    s.gone_since none)
    closed all

just_gone : (o : Option ℕ) (was is : Bool) (now since : ℕ) → was ≡ true → is ≡ false
    → gone_after o was is now since ≡ now
just_gone None was is now since before closed = refl
just_gone (Some first) true true now since before closed = cc
just_gone (Some first) true false now since before closed = refl
just_gone (Some first) false is now since before closed = cc

pub gone_from_there : (s : ShownRun) (there first : Look) (later : List Look)
    → there.watch.connection.opening ≢ None → IsClosed first → AllByRecursion IsClosed later
    → (noted_after s (there ∷ first ∷ later)).gone_since ≡ first.watch.moment
gone_from_there s there first later some closed all =
    let v = noted there.watch there.notice s in
    gone_from v first later
    (just_gone v.began v.was_open (is_some first.watch.connection.opening) first.watch.moment
    v.gone_since (an_opening there.watch.connection.opening some)
    (no_opening first.watch.connection.opening closed))
    closed all

-- How the state is kept

pub keeping_stays : (s : ShownRun) (looks : List Look) → AllByRecursion IsSilent looks
    → (noted_after s looks).keeping ≡ s.keeping
keeping_stays s [] all = refl
keeping_stays s (l ∷ looks) (silent, all) =
    keeping_stays (noted l.watch l.notice s) looks all
    ∙ ap (λ (o : Option Notice). keeping_by o s.keeping) silent

pub keeping_is : (s : ShownRun) (before later : List Look) (l : Look) (notice : Notice)
    → l.notice ≡ Some notice → AllByRecursion IsSilent later
    → (noted_after s (before ++ l ∷ later)).keeping ≡ keeping_after notice
keeping_is s [] later l notice is all =
    keeping_stays (noted l.watch l.notice s) later all
    ∙ ap (λ (o : Option Notice). keeping_by o s.keeping) is
keeping_is s (b ∷ before) later l notice is all =
    keeping_is (noted b.watch b.notice s) before later l notice is all

-- When visitors have a turn

-- What was counted

-- the latest count is that of one of these looks
abbrev pub IsCountOf : List Look → ShownRun → Type 0
IsCountOf looks s = (moment : ℕ) → s.counted ≡ Some moment
    → (earlier : List Look) × (l : Look) × (later : List Look) × (looks ≡ earlier ++ l ∷ later)
    × (s.taken ≡ taken_in l.gateway) × (l.watch.moment ≡ moment)

kept_count : (looks : List Look) (l : Look) (s s' : ShownRun) → s'.counted ≡ s.counted
    → s'.taken ≡ s.taken → IsCountOf looks s → IsCountOf (looks ++ l ∷ []) s'
kept_count looks l s s' same taken before moment is =
    let (earlier, at, later, among, number, there) = before moment (sym same ∙ is) in (
      earlier,
      at,
      later ++ l ∷ [],
      ap (λ (x : List Look). x ++ l ∷ []) among ∙ append_assoc earlier (at ∷ later) (l ∷ []),
      taken ∙ number,
      there,
    )

some_same : {A : Type 0} {x y : A} → Some x ≡ Some y → x ≡ y
some_same e = cc

counted_by : (b : Bool) (looks : List Look) (l : Look) (s c : ShownRun)
    → c.counted ≡ Some l.watch.moment → c.taken ≡ taken_in l.gateway → IsCountOf looks s
    → IsCountOf (looks ++ l ∷ []) (if b then c else s)
counted_by true looks l s c at taken before moment is =
    (looks, l, [], refl, taken, some_same (sym at ∙ is))
counted_by false looks l s c at taken before moment is =
    kept_count looks l s s refl refl before moment is

step_by : (b : Bool) (looks : List Look) (l : Look) (s : ShownRun) → IsCountOf looks s
    → let n = noted l.watch l.notice s in
    IsCountOf (looks ++ l ∷ []) (if b then counted l.gateway l.watch n else n)
step_by true looks l s before =
    let n = noted l.watch l.notice s in
    counted_by (is_over n.counted l.watch.moment 1000) looks l n _ refl refl before
step_by false looks l s before =
    kept_count looks l s (noted l.watch l.notice s) refl refl before

count_steps : (past looks : List Look) (s : Standing) → IsCountOf past s.shown
    → IsCountOf (past ++ looks) (after_looks s looks).shown
count_steps past [] s before =
    subst (λ (l : List Look). IsCountOf l s.shown) (sym (append-nil past)) before
count_steps past (l ∷ looks) s before =
    let one : IsCountOf (past ++ l ∷ []) (after_look l s).shown =
    step_by (is_over s.turned l.watch.moment 20) past l s.shown before in
    subst (λ (x : List Look). IsCountOf x (after_looks (after_look l s) looks).shown)
    (append_assoc past (l ∷ []) looks)
    (count_steps (past ++ l ∷ []) looks (after_look l s) one)

looks_end : (s : Standing) (looks : List Look) (last : Look)
    → after_looks s (looks ++ last ∷ []) ≡ after_look last (after_looks s looks)
looks_end s [] last = refl
looks_end s (l ∷ looks) last = looks_end (after_look l s) looks last

none_counted : (s : ShownRun) → s.counted ≡ None → IsCountOf [] s
none_counted s none moment is = absurd (none_some (sym none ∙ is))
  where
    none_some : {A : Type 0} {x : A} → None ≡ Some x → ⊥
    none_some e = cc

not_over : (t now : ℕ) → is_over (Some t) now 1000 ≡ false → now - t < 1000
not_over t now is = under (now - t) is
  where
    under : (n : ℕ) → nat_le 1000 n ≡ false → n < 1000
    under n is = grind (arith, nat_tests)

fresh_by : (o : Option ℕ) (looks : List Look) (l : Look) (n c : ShownRun) (b : Bool)
    → n.counted ≡ o → b ≡ is_over o l.watch.moment 1000 → c.taken ≡ taken_in l.gateway
    → IsCountOf looks n → HasCounted (looks ++ l ∷ []) l.watch.moment (if b then c else n).taken
fresh_by o looks l n c true is over taken before =
    record {
      earlier = looks;
      counted = l;
      later = [];
      among = refl;
      number = taken;
      fresh = omega arith;
    }
fresh_by None looks l n c false is over taken before = cc
fresh_by (Some t) looks l n c false is over taken before =
    let (earlier, at, later, among, number, there) = before t is in
    let recent : l.watch.moment - t < 1000 = not_over t l.watch.moment (sym over) in
    record {
      earlier = earlier;
      counted = at;
      later = later ++ l ∷ [];
      among = ap (λ (x : List Look). x ++ l ∷ []) among
          ∙ append_assoc earlier (at ∷ later) (l ∷ []);
      number = number;
      fresh = omega arith;
    }

pub is_counted : (s : Standing) (looks : List Look) (last : Look) → s.shown.counted ≡ None
    → is_over (after_looks s looks).turned last.watch.moment 20 ≡ true
    → HasCounted (looks ++ last ∷ []) last.watch.moment
    (after_looks s (looks ++ last ∷ [])).shown.taken
is_counted s looks last none due =
    let v = after_looks s looks in
    let n = noted last.watch last.notice v.shown in
    let c = counted last.gateway last.watch n in
    let now = last.watch.moment in
    let before : IsCountOf looks v.shown =
    count_steps [] looks s (none_counted s.shown none) in
    let here : HasCounted (looks ++ last ∷ []) now c.taken =
    fresh_by n.counted looks last n _ (is_over n.counted now 1000) refl refl refl before in
    subst (λ (x : Standing). HasCounted (looks ++ last ∷ []) now x.shown.taken)
    (sym (looks_end s looks last))
    (subst (λ (b : Bool). HasCounted (looks ++ last ∷ []) now (if b then c else n).taken) (sym due)
    here)
