-- One more line, after what is kept by number of those before it.
use Rattle.std.proofs.Common.{◌≡◌, ℕ, ◌==◌, ◌||◌, Bool, true, false, if◌then◌else◌, List, [], ◌∷◌}
use Rattle.std.proofs.Common.{◌++◌, length, Option, Some, None, is_some, refl, sym, ap, ◌∙◌, arith}
use Rattle.std.proofs.lemmas.Bool.{eqb-true}
use Rattle.std.proofs.lemmas.Grind.{common_steps}
use Rattle.std.proofs.lemmas.List.{get_or_append_left}
use Rattle.std.proofs.Math.Seq.{get_or-append_seam}
use Rattle.std.specs.BTreeMap.{BTreeMap, get}
use Rattle.std.specs.BTreeSet.{BTreeSet, contains}
use Rattle.std.specs.List.{list_any}
use Rattle.std.specs.Option.{option_or}
use Rattle.std.specs.Ordering.{nat_cmp}
use Rattle.sim.specs.declared.directive.Class.{Class}
use Rattle.sim.specs.declared.directive.Directive.{Directive}
use Rattle.sim.specs.declared.directive.Directive.TheVariants.{Turns, Ack, Wall, Report}
use Rattle.sim.specs.declared.directive.Directive.TheVariants.{LoseRequest, LoseAnswer, SpoilAnswer}
use Rattle.sim.specs.declared.directive.Directive.TheVariants.{Cut, Send}
use Rattle.sim.specs.Losses.{or_else, first_said, turns_said, ack_said, wall_said, loses_request}
use Rattle.sim.specs.Losses.{loses_answer, cuts, spoil_said, send_said, sent_at}
use Rattle.sim.specs.Numbered.{IsSentFrom, IsNumbered}
use Rattle.sim.specs.Scripts.{clashes, clashes_with, is_turns}

or_swap : (a b l : Bool) → (a || (b || l)) ≡ (b || (a || l))
or_swap true true l = refl
or_swap true false l = refl
or_swap false b l = refl

pub any_last : (test : Directive → Bool) (ds : List Directive) (d : Directive)
    → list_any test (ds ++ d ∷ []) ≡ (test d || list_any test ds)
any_last test [] d = refl
any_last test (x ∷ ds) d = rw (any_last test ds d) (or_swap (test x) (test d) (list_any test ds))

or_none : {A : Type 0} (a : Option A) → or_else a None ≡ a
or_none None = refl
or_none (Some x) = refl

or_or : {A : Type 0} (a b c : Option A) → or_else a (or_else b c) ≡ or_else (or_else a b) c
or_or None b c = refl
or_or (Some x) b c = refl

pub first_last : {A : Type 0} (say : Directive → Option A) (ds : List Directive) (d : Directive)
    → first_said say (ds ++ d ∷ []) ≡ or_else (first_said say ds) (say d)
first_last say [] d = or_none (say d)
first_last say (x ∷ ds) d = rw (first_last say ds d) (or_or (say x) (first_said say ds) (say d))

-- Two lines that spoil the answer to one request clash, and two that send at one call.
some_or : {A : Type 0} (a b : Option A) → is_some (or_else a b) ≡ (is_some a || is_some b)
some_or None b = refl
some_or (Some x) b = refl

some_if : {A : Type 0} (b : Bool) (x : A) → b ≡ is_some (if b then Some x else None)
some_if true x = refl
some_if false x = refl

spoil_head : (e : Directive) (n place : ℕ)
    → clashes e (SpoilAnswer n place) ≡ is_some (spoil_said n e)
spoil_head (Turns m) n place = refl
spoil_head (Ack m) n place = refl
spoil_head (Wall m) n place = refl
spoil_head (Report i c os) n place = refl
spoil_head (LoseRequest m) n place = refl
spoil_head (LoseAnswer m) n place = refl
spoil_head (SpoilAnswer m p) n place = some_if (m == n) p
spoil_head (Cut m) n place = refl
spoil_head (Send m os) n place = refl

send_head : (e : Directive) (n : ℕ) (octets : List ℕ)
    → clashes e (Send n octets) ≡ is_some (send_said n e)
send_head (Turns m) n octets = refl
send_head (Ack m) n octets = refl
send_head (Wall m) n octets = refl
send_head (Report i c os) n octets = refl
send_head (LoseRequest m) n octets = refl
send_head (LoseAnswer m) n octets = refl
send_head (SpoilAnswer m p) n octets = refl
send_head (Cut m) n octets = refl
send_head (Send m os) n octets = some_if (m == n) os

clash_by : {A : Type 0} (say : Directive → Option A) (d : Directive)
    → ((e : Directive) → clashes e d ≡ is_some (say e))
    → (ds : List Directive) → clashes_with ds d ≡ is_some (first_said say ds)
clash_by say d head [] = refl
clash_by say d head (x ∷ ds) =
    rw (some_or (say x) (first_said say ds), head x, clash_by say d head ds) refl

pub clash_spoil : (ds : List Directive) (n place : ℕ)
    → clashes_with ds (SpoilAnswer n place) ≡ is_some (first_said (spoil_said n) ds)
clash_spoil ds n place =
    clash_by (spoil_said n) (SpoilAnswer n place) (λ e. spoil_head e n place) ds

pub clash_send : (ds : List Directive) (n : ℕ) (octets : List ℕ)
    → clashes_with ds (Send n octets) ≡ is_some (sent_at ds n)
clash_send ds n octets = clash_by (send_said n) (Send n octets) (λ e. send_head e n octets) ds

turns_head : (e : Directive) (n : ℕ) → clashes e (Turns n) ≡ is_some (turns_said e)
turns_head (Turns m) n = refl
turns_head (Ack m) n = refl
turns_head (Wall m) n = refl
turns_head (Report i c os) n = refl
turns_head (LoseRequest m) n = refl
turns_head (LoseAnswer m) n = refl
turns_head (SpoilAnswer m p) n = refl
turns_head (Cut m) n = refl
turns_head (Send m os) n = refl

pub clash_turns : (ds : List Directive) (n : ℕ)
    → clashes_with ds (Turns n) ≡ is_some (first_said turns_said ds)
clash_turns ds n = clash_by turns_said (Turns n) (λ e. turns_head e n) ds

ack_head : (e : Directive) (n : ℕ) → clashes e (Ack n) ≡ is_some (ack_said e)
ack_head (Turns m) n = refl
ack_head (Ack m) n = refl
ack_head (Wall m) n = refl
ack_head (Report i c os) n = refl
ack_head (LoseRequest m) n = refl
ack_head (LoseAnswer m) n = refl
ack_head (SpoilAnswer m p) n = refl
ack_head (Cut m) n = refl
ack_head (Send m os) n = refl

pub clash_ack : (ds : List Directive) (n : ℕ)
    → clashes_with ds (Ack n) ≡ is_some (first_said ack_said ds)
clash_ack ds n = clash_by ack_said (Ack n) (λ e. ack_head e n) ds

wall_head : (e : Directive) (n : ℕ) → clashes e (Wall n) ≡ is_some (wall_said e)
wall_head (Turns m) n = refl
wall_head (Ack m) n = refl
wall_head (Wall m) n = refl
wall_head (Report i c os) n = refl
wall_head (LoseRequest m) n = refl
wall_head (LoseAnswer m) n = refl
wall_head (SpoilAnswer m p) n = refl
wall_head (Cut m) n = refl
wall_head (Send m os) n = refl

pub clash_wall : (ds : List Directive) (n : ℕ)
    → clashes_with ds (Wall n) ≡ is_some (first_said wall_said ds)
clash_wall ds n = clash_by wall_said (Wall n) (λ e. wall_head e n) ds

is_turns_head : (e : Directive) → is_turns e ≡ is_some (turns_said e)
is_turns_head (Turns m) = refl
is_turns_head (Ack m) = refl
is_turns_head (Wall m) = refl
is_turns_head (Report i c os) = refl
is_turns_head (LoseRequest m) = refl
is_turns_head (LoseAnswer m) = refl
is_turns_head (SpoilAnswer m p) = refl
is_turns_head (Cut m) = refl
is_turns_head (Send m os) = refl

pub has_turns : (ds : List Directive) → list_any is_turns ds ≡ is_some (first_said turns_said ds)
has_turns [] = refl
has_turns (x ∷ ds) =
    rw (some_or (turns_said x) (first_said turns_said ds), is_turns_head x, has_turns ds) refl

-- These lines clash with none.
none_by : (d : Directive) → ((e : Directive) → clashes e d ≡ false) → (ds : List Directive)
    → clashes_with ds d ≡ false
none_by d head [] = refl
none_by d head (x ∷ ds) = rw (head x, none_by d head ds) refl

report_head : (e : Directive) (station : ℕ) (class : Class) (octets : List ℕ)
    → clashes e (Report station class octets) ≡ false
report_head (Turns m) station class octets = refl
report_head (Ack m) station class octets = refl
report_head (Wall m) station class octets = refl
report_head (Report i c os) station class octets = refl
report_head (LoseRequest m) station class octets = refl
report_head (LoseAnswer m) station class octets = refl
report_head (SpoilAnswer m p) station class octets = refl
report_head (Cut m) station class octets = refl
report_head (Send m os) station class octets = refl

pub clash_report : (ds : List Directive) (station : ℕ) (class : Class) (octets : List ℕ)
    → clashes_with ds (Report station class octets) ≡ false
clash_report ds station class octets =
    none_by (Report station class octets) (λ e. report_head e station class octets) ds

unreceived_head : (e : Directive) (n : ℕ) → clashes e (LoseRequest n) ≡ false
unreceived_head (Turns m) n = refl
unreceived_head (Ack m) n = refl
unreceived_head (Wall m) n = refl
unreceived_head (Report i c os) n = refl
unreceived_head (LoseRequest m) n = refl
unreceived_head (LoseAnswer m) n = refl
unreceived_head (SpoilAnswer m p) n = refl
unreceived_head (Cut m) n = refl
unreceived_head (Send m os) n = refl

pub clash_unreceived : (ds : List Directive) (n : ℕ) → clashes_with ds (LoseRequest n) ≡ false
clash_unreceived ds n = none_by (LoseRequest n) (λ e. unreceived_head e n) ds

lost_head : (e : Directive) (n : ℕ) → clashes e (LoseAnswer n) ≡ false
lost_head (Turns m) n = refl
lost_head (Ack m) n = refl
lost_head (Wall m) n = refl
lost_head (Report i c os) n = refl
lost_head (LoseRequest m) n = refl
lost_head (LoseAnswer m) n = refl
lost_head (SpoilAnswer m p) n = refl
lost_head (Cut m) n = refl
lost_head (Send m os) n = refl

pub clash_lost : (ds : List Directive) (n : ℕ) → clashes_with ds (LoseAnswer n) ≡ false
clash_lost ds n = none_by (LoseAnswer n) (λ e. lost_head e n) ds

cut_head : (e : Directive) (n : ℕ) → clashes e (Cut n) ≡ false
cut_head (Turns m) n = refl
cut_head (Ack m) n = refl
cut_head (Wall m) n = refl
cut_head (Report i c os) n = refl
cut_head (LoseRequest m) n = refl
cut_head (LoseAnswer m) n = refl
cut_head (SpoilAnswer m p) n = refl
cut_head (Cut m) n = refl
cut_head (Send m os) n = refl

pub clash_cut : (ds : List Directive) (n : ℕ) → clashes_with ds (Cut n) ≡ false
clash_cut ds n = none_by (Cut n) (λ e. cut_head e n) ds

pub clash_other : (ds : List Directive) (d : Directive) → ((n : ℕ) → d ≡ Turns n → ⊥)
    → ((n : ℕ) → d ≡ Ack n → ⊥)
    → ((n : ℕ) → d ≡ Wall n → ⊥) → ((n place : ℕ) → d ≡ SpoilAnswer n place → ⊥)
    → ((n : ℕ) (octets : List ℕ) → d ≡ Send n octets → ⊥) → clashes_with ds d ≡ false
clash_other ds (Turns n) turns ack wall spoil send = absurd (turns n refl)
clash_other ds (Ack n) turns ack wall spoil send = absurd (ack n refl)
clash_other ds (Wall n) turns ack wall spoil send = absurd (wall n refl)
clash_other ds (Report station class octets) turns ack wall spoil send =
    clash_report ds station class octets
clash_other ds (LoseRequest n) turns ack wall spoil send = clash_unreceived ds n
clash_other ds (LoseAnswer n) turns ack wall spoil send = clash_lost ds n
clash_other ds (SpoilAnswer n place) turns ack wall spoil send = absurd (spoil n place refl)
clash_other ds (Cut n) turns ack wall spoil send = clash_cut ds n
clash_other ds (Send n octets) turns ack wall spoil send = absurd (send n octets refl)

-- a place is kept if something is sent
pub some_sent : (ds : List Directive) (call : ℕ) (place : Option ℕ) → IsSentFrom ds call place
    → is_some place ≡ is_some (sent_at ds call)
some_sent ds call None is = rw is refl
some_sent ds call (Some i) is = sym is.2

-- What a line adds, if it clashes with none before it.
or_else_swap : {A : Type 0} (a b : Option A)
    → (is_some a ≡ true → b ≡ None) → or_else a b ≡ or_else b a
or_else_swap None b none = sym (or_none b)
or_else_swap (Some x) b none = rw (none refl) refl

not_some : {A : Type 0} (a : Option A) → is_some a ≡ false → a ≡ None
not_some None none = refl
not_some (Some x) none = cc

free_spoil : (ds : List Directive) (d : Directive) (q : ℕ) → clashes_with ds d ≡ false
    → is_some (spoil_said q d) ≡ true → first_said (spoil_said q) ds ≡ None
free_spoil ds (Turns n) q free some = cc
free_spoil ds (Ack n) q free some = cc
free_spoil ds (Wall n) q free some = cc
free_spoil ds (Report station class octets) q free some = cc
free_spoil ds (LoseRequest n) q free some = cc
free_spoil ds (LoseAnswer n) q free some = cc
free_spoil ds (SpoilAnswer n place) q free some =
    let here : n ≡ q = eqb-true n q (some_if (n == q) place ∙ some) in
    not_some _ (sym (clash_spoil ds q place)
    ∙ (ap (λ m. clashes_with ds (SpoilAnswer m place)) (sym here) ∙ free))
free_spoil ds (Cut n) q free some = cc
free_spoil ds (Send n octets) q free some = cc

free_send : (ds : List Directive) (d : Directive) (q : ℕ) → clashes_with ds d ≡ false
    → is_some (send_said q d) ≡ true → sent_at ds q ≡ None
free_send ds (Turns n) q free some = cc
free_send ds (Ack n) q free some = cc
free_send ds (Wall n) q free some = cc
free_send ds (Report station class octets) q free some = cc
free_send ds (LoseRequest n) q free some = cc
free_send ds (LoseAnswer n) q free some = cc
free_send ds (SpoilAnswer n place) q free some = cc
free_send ds (Cut n) q free some = cc
free_send ds (Send n octets) q free some =
    let here : n ≡ q = eqb-true n q (some_if (n == q) octets ∙ some) in
    not_some _ (sym (clash_send ds q octets)
    ∙ (ap (λ m. clashes_with ds (Send m octets)) (sym here) ∙ free))

pub spoilt_last : (ds : List Directive) (d : Directive) (q : ℕ) → clashes_with ds d ≡ false
    → first_said (spoil_said q) (ds ++ d ∷ [])
    ≡ or_else (spoil_said q d) (first_said (spoil_said q) ds)
spoilt_last ds d q free = first_last (spoil_said q) ds d
    ∙ sym (or_else_swap (spoil_said q d) (first_said (spoil_said q) ds) (free_spoil ds d q free))

sent_new : (ds : List Directive) (d : Directive) (q : ℕ) → sent_at ds q ≡ None
    → is_some (send_said q d) ≡ true → IsSentFrom (ds ++ d ∷ []) q (Some (length ds))
sent_new ds d q none some =
    let here : sent_at (ds ++ d ∷ []) q ≡ send_said q d =
    first_last (send_said q) ds d ∙ ap (λ o. or_else o (send_said q d)) none in (
      grind (arith, common_steps),
      here ∙ ap (send_said q) (sym (get_or-append_seam ds d [] (Turns 0))),
      ap is_some here ∙ some,
    )

sent_old : (ds : List Directive) (d : Directive) (q : ℕ) (place : Option ℕ) → IsSentFrom ds q place
    → send_said q d ≡ None → IsSentFrom (ds ++ d ∷ []) q place
sent_old ds d q None is none = first_last (send_said q) ds d ∙ rw (is, none) refl
sent_old ds d q (Some i) is none =
    let same : sent_at (ds ++ d ∷ []) q ≡ sent_at ds q = first_last (send_said q) ds d
    ∙ (ap (or_else (sent_at ds q)) none ∙ or_none (sent_at ds q)) in (
      grind (arith, common_steps, is.0),
      same ∙ (is.1 ∙ ap (send_said q) (sym (get_or_append_left ds (d ∷ []) (Turns 0) i is.0))),
      ap is_some same ∙ is.2,
    )

pub sent_last : (ds : List Directive) (d : Directive) (q : ℕ) (place : Option ℕ)
    → clashes_with ds d ≡ false → IsSentFrom ds q place
    → IsSentFrom (ds ++ d ∷ []) q (if is_some (send_said q d) then Some (length ds) else place)
sent_last ds d q place free is = go (send_said q d) refl
  where
    go : (o : Option (List ℕ)) → send_said q d ≡ o
        → IsSentFrom (ds ++ d ∷ []) q (if is_some (send_said q d) then Some (length ds) else place)
    go None e = rw e (sent_old ds d q place is e)
    go (Some x) e =
        let some : is_some (send_said q d) ≡ true = ap is_some e in
        rw some (sent_new ds d q (free_send ds d q free some) some)

or_is : {A : Type 0} (a b : Option A) → option_or a b ≡ or_else a b
or_is None b = refl
or_is (Some x) b = refl

said_last : {A : Type 0} (say : Directive → Option A) (ds : List Directive) (d : Directive)
    (o : Option A) → o ≡ first_said say ds → option_or o (say d)
    ≡ first_said say (ds ++ d ∷ [])
said_last say ds d o is = or_is o (say d)
    ∙ (ap (λ a. or_else a (say d)) is ∙ sym (first_last say ds d))

-- what is kept goes with the lines once it has what the last of them adds
pub numbered_more : (ds new : List Directive) (d : Directive) (ts ts2 ks ks2 ws ws2 : Option ℕ)
    (us us2 ls ls2 cs cs2 : BTreeSet ℕ)
    (ps ps2 ss ss2 : BTreeMap ℕ ℕ) (place : ℕ) → place ≡ length ds → new ≡ ds ++ d ∷ []
    → clashes_with ds d ≡ false → ts2 ≡ option_or ts (turns_said d)
    → ks2 ≡ option_or ks (ack_said d)
    → ws2 ≡ option_or ws (wall_said d)
    → ((q : ℕ) → contains nat_cmp us2 q ≡ (loses_request q d || contains nat_cmp us q))
    → ((q : ℕ) → contains nat_cmp ls2 q ≡ (loses_answer q d || contains nat_cmp ls q))
    → ((q : ℕ) → contains nat_cmp cs2 q ≡ (cuts q d || contains nat_cmp cs q))
    → ((q : ℕ) → get nat_cmp ps2 q ≡ or_else (spoil_said q d) (get nat_cmp ps q))
    → ((q : ℕ) → get nat_cmp ss2 q ≡ (if is_some (send_said q d) then Some place
    else get nat_cmp ss q))
    → IsNumbered ds ts ks ws us ls cs ps ss
    → IsNumbered new ts2 ks2 ws2 us2 ls2 cs2 ps2 ss2
numbered_more ds new d ts ts2 ks ks2 ws ws2 us us2 ls ls2 cs cs2 ps ps2 ss ss2 place at is free
    t k w u l c p s so = rw is (record {
      turns = t ∙ said_last turns_said ds d ts so.turns;
      ack = k ∙ said_last ack_said ds d ks so.ack;
      wall = w ∙ said_last wall_said ds d ws so.wall;
      unreceived = λ q. u q ∙ (ap (λ b. loses_request q d || b) (so.unreceived q)
          ∙ sym (any_last (loses_request q) ds d));
      lost = λ q. l q ∙ (ap (λ b. loses_answer q d || b) (so.lost q)
          ∙ sym (any_last (loses_answer q) ds d));
      cut = λ q. c q ∙ (ap (λ b. cuts q d || b) (so.cut q) ∙ sym (any_last (cuts q) ds d));
      spoilt = λ q. p q ∙ (ap (or_else (spoil_said q d)) (so.spoilt q)
          ∙ sym (spoilt_last ds d q free));
      sends = λ q. rw (s q, at) (sent_last ds d q (get nat_cmp ss q) free (so.sends q));
    })
