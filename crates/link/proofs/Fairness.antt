-- Over every list of calls the exchanges are visits, and no station waits for longer than all the
-- others' visits.
use Rattle.std.specs.Prelude.{◌==◌}
use Rattle.std.proofs.Common.{◌≡◌, ℕ, zero, suc, ◌+◌, ◌-◌, ◌*◌, ◌<◌, ◌≤◌, nat_lt, Bool, true, false}
use Rattle.std.proofs.Common.{List, [], ◌∷◌, ◌++◌, All, length, Option, None, Some, refl, sym, ap}
use Rattle.std.proofs.Common.{subst, ◌∙◌, ◌⊎◌, inl, inr, arith, if◌then◌else◌}
use Rattle.std.proofs.lemmas.Nat.{mul-le}
use Rattle.std.proofs.lemmas.Bool.{cases_lt, cases_eq, lt-ltb, le-ltb, eqb-false}
use Rattle.ft12.specs.Fronts.{front_of}
use Rattle.link.specs.Exchanges.{Exchanges, Sending, no_exchanges, all_of, views, received_current}
use Rattle.link.specs.Exchanges.{begun_by}
use Rattle.link.specs.Procedure.{LinkSettings}
use Rattle.link.specs.Requests.{FitsAddress}
use Rattle.link.specs.Turns.{Starting, station_at, wanted, place_after}
use Rattle.link.specs.Primary.{Primary, start, asked, sending, received}
use Rattle.link.specs.Matching.{IsStable, MatchesBy, Matches}
use Rattle.link.specs.Leave.{IsLeftToPolls}
use Rattle.link.specs.Runs.{Call, Next, Octets, Due, GivesUp, called, exchanged}
use Rattle.link.specs.Runs.{MayCall, MayCallAll, called_all, exchanged_all, nth_after}
use Rattle.link.specs.Visits.{AreInVisits, most_of_visit}
use Rattle.link.specs.Waits.{WantsAt, AlwaysWants, station_in, stations_by, stations_asked, waited}
use Rattle.link.proofs.Choice.{place_fits}
use Rattle.link.proofs.Resting.{left}
use Rattle.link.proofs.Running.{call_matches, calls_match}
use Rattle.link.proofs.Called.{start_matches}
use Rattle.link.proofs.VisitAsked.{InVisit, IsAsked, nothing, goes_on, begins, in_visits}
use Rattle.link.proofs.VisitRuns.{Stays}
use Rattle.link.proofs.VisitAsked.{many_most, asked_visits}
use Rattle.link.proofs.VisitRuns.{received_visits, due_visits}
use Rattle.link.proofs.VisitRuns.{start_visits}
use Rattle.link.proofs.VisitsGiven.{give_up_visits}
use Rattle.link.specs.Turns.{CommandsWaiting}
use Rattle.link.specs.Runs.{Doubts}
use Rattle.link.proofs.VisitRuns.{doubted_visits}

-- ---- the exchanges are visits

-- so many exchanges has the present visit
abbrev pub HasVisit : LinkSettings → (addresses : List ℕ) → Primary → Exchanges → Type 0
HasVisit settings addresses p e = (many : ℕ) × InVisit (front_of settings.size) addresses p e many

own_matches : (settings : LinkSettings) (addresses : List ℕ) (p : Primary) (e : Exchanges)
    → Matches settings addresses p e
    →
    MatchesBy (front_of settings.size) p.settings addresses p e
own_matches settings addresses p e t =
    subst (λ (s : LinkSettings). MatchesBy (front_of settings.size) s addresses p e)
    (sym t.settings_are) t

burst_there : (settings : LinkSettings) (addresses : List ℕ) (p : Primary) (e : Exchanges)
    → Matches settings addresses p e → 0 < settings.burst → 0 < p.settings.burst
burst_there settings addresses p e t some =
    subst (λ (s : LinkSettings). 0 < s.burst) (sym t.settings_are) some

asks_visit : (settings : LinkSettings) (addresses : List ℕ) (p p' : Primary) (e' : Exchanges)
    (may_poll : Bool) (waiting : CommandsWaiting)
    (many : ℕ) (s : Option Sending) →
    IsAsked (front_of settings.size) addresses p may_poll waiting many p' e' s
    → HasVisit settings addresses p' e'
asks_visit settings addresses p p' e' may_poll waiting many s (nothing none turn v) = (many, v)
asks_visit settings addresses p p' e' may_poll waiting many s (goes_on z is at turn v) =
    (suc many, v)
asks_visit settings addresses p p' e' may_poll waiting many s (begins c is free f within turn v) =
    (1, v)

abbrev pub IsOther : Call → Type 0
IsOther (Next now may_poll waiting) = ⊥
IsOther call = Unit {0}

-- a call that asks for nothing
stays : (settings : LinkSettings) (addresses : List ℕ) (p : Primary) (e : Exchanges) (many : ℕ)
    (call : Call)
    → IsOther call → MayCall p call →
    Matches settings addresses p e → InVisit (front_of settings.size) addresses p e many →
    Stays (front_of settings.size) addresses p.turn (called p call) (exchanged p call e) many
stays settings addresses p e many (Next now may_poll waiting) other may t v = absurd other
stays settings addresses p e many (Octets octets) other may t v =
    subst (λ (s : LinkSettings). Stays (front_of settings.size) addresses p.turn
    (received (front_of s.size) p octets)
    (record { ended = e.ended; current = received_current octets e.current }) many)
    (sym t.settings_are) (received_visits (front_of settings.size) addresses p e.ended e.current
    octets
    many t.fits.turn v)
stays settings addresses p e many (Due now) other may t v =
    due_visits (front_of settings.size) addresses p e.ended e.current p.settings.answer_ms now many
    t.fits.turn v
stays settings addresses p e many (GivesUp station) other may t v =
    give_up_visits (front_of settings.size) addresses p e many station may v
stays settings addresses p e many Doubts other may t v =
    (doubted_visits (front_of settings.size) addresses p e many v, refl)

call_visits : (settings : LinkSettings) (addresses : List ℕ) (p : Primary) (e : Exchanges)
    (call : Call)
    → 0 < settings.burst →
    MayCall p call → Matches settings addresses p e → HasVisit settings addresses p e
    → HasVisit settings addresses (called p call) (exchanged p call e)
call_visits settings addresses p e (Next now may_poll waiting) some may t v =
    asks_visit settings addresses p _ _ may_poll waiting v.0 _
    (asked_visits (front_of settings.size) addresses p e v.0 now may_poll waiting
    (burst_there settings addresses p e t some)
    (own_matches settings addresses p e t) v.1)
call_visits settings addresses p e (Octets octets) some may t v =
    (v.0, (stays settings addresses p e v.0 (Octets octets) tt may t v.1).0)
call_visits settings addresses p e (Due now) some may t v =
    (v.0, (stays settings addresses p e v.0 (Due now) tt may t v.1).0)
call_visits settings addresses p e (GivesUp station) some may t v =
    (v.0, (stays settings addresses p e v.0 (GivesUp station) tt may t v.1).0)
call_visits settings addresses p e Doubts some may t v =
    (v.0, (stays settings addresses p e v.0 Doubts tt may t v.1).0)

calls_visit : (settings : LinkSettings) (addresses : List ℕ) → IsStable (front_of settings.size)
    → (p : Primary) (e : Exchanges) (calls : List Call) → 0 < settings.burst →
    MayCallAll p calls → Matches settings addresses p e → HasVisit settings addresses p e
    → HasVisit settings addresses (called_all p calls) (exchanged_all p calls e)
calls_visit settings addresses stable p e [] some may t v = v
calls_visit settings addresses stable p e (call ∷ calls) some may t v =
    calls_visit settings addresses stable (called p call) (exchanged p call e) calls some may.1
    (call_matches settings addresses stable p e call may.0 t)
    (call_visits settings addresses p e call some may.0 t v)

abbrev pub after_first : LinkSettings → List ℕ → List Call → Primary
after_first settings addresses calls = called_all (start settings addresses) calls

pub run_matches_it : (settings : LinkSettings) (addresses : List ℕ)
    → IsStable (front_of settings.size)
    → (calls : List Call) →
    0 < length addresses → All (FitsAddress settings.size) addresses
    → MayCallAll (start settings addresses) calls →
    Matches settings addresses (after_first settings addresses calls)
    (exchanged_all (start settings addresses) calls no_exchanges)
run_matches_it settings addresses stable calls some fit may =
    calls_match settings addresses stable (start settings addresses) no_exchanges calls may
    (start_matches settings addresses some fit)

run_visit : (settings : LinkSettings) (addresses : List ℕ) → IsStable (front_of settings.size)
    → (calls : List Call) →
    0 < length addresses → All (FitsAddress settings.size) addresses → 0 < settings.burst
    → MayCallAll (start settings addresses) calls →
    HasVisit settings addresses (after_first settings addresses calls)
    (exchanged_all (start settings addresses) calls no_exchanges)
run_visit settings addresses stable calls some fit burst may =
    calls_visit settings addresses stable (start settings addresses) no_exchanges calls burst may
    (start_matches settings addresses some fit)
    (0, start_visits (front_of settings.size) settings addresses)

pub run_visits : (settings : LinkSettings) (addresses : List ℕ) → IsStable (front_of settings.size)
    → (calls : List Call) →
    0 < length addresses → All (FitsAddress settings.size) addresses → 0 < settings.burst
    → MayCallAll (start settings addresses) calls →
    AreInVisits settings addresses (views (front_of settings.size)
    (all_of (exchanged_all (start settings addresses) calls no_exchanges)))
run_visits settings addresses stable calls some fit burst may =
    let v = run_visit settings addresses stable calls some fit burst may in
    subst (λ (s : LinkSettings). AreInVisits s addresses
    (views (front_of settings.size)
    (all_of (exchanged_all (start settings addresses) calls no_exchanges))))
    (run_matches_it settings addresses stable calls some fit may).settings_are
    (in_visits (front_of settings.size) addresses _ _ v.0 v.1)

-- ---- round the stations

-- how far it is from one place to another, round so many
abbrev pub distance : (count from_ to_ : ℕ) → ℕ
distance count from_ to_ = if nat_lt to_ from_ then (count + to_) - from_ else to_ - from_

distance_is : (count k i : ℕ) → ((i < k) × (distance count k i ≡ (count + i) - k))
    ⊎ ((k ≤ i) × (distance count k i ≡ i - k))
distance_is count k i = go (cases_lt i k)
  where
    go : (i < k) ⊎ (k ≤ i) → ((i < k) × (distance count k i ≡ (count + i) - k))
        ⊎ ((k ≤ i) × (distance count k i ≡ i - k))
    go (inl lt) = inl (lt, ap (λ (b : Bool). if b then (count + i) - k else i - k) (lt-ltb i k lt))
    go (inr le) = inr (le, ap (λ (b : Bool). if b then (count + i) - k else i - k) (le-ltb i k le))

place_is : (count i : ℕ) → ((suc i < count) × (place_after count i ≡ suc i))
    ⊎ ((count ≤ suc i) × (place_after count i ≡ 0))
place_is count i = go (cases_lt (suc i) count)
  where
    go : (suc i < count) ⊎ (count ≤ suc i) → ((suc i < count) × (place_after count i ≡ suc i))
        ⊎ ((count ≤ suc i) × (place_after count i ≡ 0))
    go (inl lt) = inl (lt, ap (λ (b : Bool). if b then suc i else 0) (lt-ltb (suc i) count lt))
    go (inr le) = inr (le, ap (λ (b : Bool). if b then suc i else 0) (le-ltb (suc i) count le))

-- the next place is one further, or the one that counts
next_distance : (count k i : ℕ) → i < count → k < count →
    (place_after count i ≡ k) ⊎ (distance count k (place_after count i) ≡ suc (distance count k i))
next_distance count k i within there = go (place_after count i) refl (place_is count i)
    (distance_is count k i)
    (distance_is count k (place_after count i))
  where
    go : (j : ℕ) → place_after count i ≡ j → ((suc i < count) × (place_after count i ≡ suc i))
        ⊎ ((count ≤ suc i) × (place_after count i ≡ 0)) →
        ((i < k) × (distance count k i ≡ (count + i) - k))
        ⊎ ((k ≤ i) × (distance count k i ≡ i - k)) →
        ((place_after count i < k) × (distance count k (place_after count i)
        ≡ (count + place_after count i) - k))
        ⊎ ((k ≤ place_after count i) × (distance count k (place_after count i) ≡ place_after count i
        - k)) →
        (place_after count i ≡ k)
        ⊎ (distance count k (place_after count i) ≡ suc (distance count k i))
    go j e (inl (a)) (inl (b)) (inl (c)) =
        inr (omega (arith, a.0, a.1, b.0, b.1, c.0, c.1, within, there))
    go j e (inl (a)) (inl (b)) (inr (c)) =
        inl (omega (arith, a.0, a.1, b.0, b.1, c.0, c.1, within, there))
    go j e (inl (a)) (inr (b)) (inl (c)) =
        absurd (omega (arith, a.0, a.1, b.0, b.1, c.0, c.1, within, there))
    go j e (inl (a)) (inr (b)) (inr (c)) =
        inr (omega (arith, a.0, a.1, b.0, b.1, c.0, c.1, within, there))
    go j e (inr (a)) (inl (b)) (inl (c)) =
        absurd (omega (arith, a.0, a.1, b.0, b.1, c.0, c.1, within, there))
    go j e (inr (a)) (inl (b)) (inr (c)) =
        absurd (omega (arith, a.0, a.1, b.0, b.1, c.0, c.1, within, there))
    go j e (inr (a)) (inr (b)) (inl (c)) =
        inr (omega (arith, a.0, a.1, b.0, b.1, c.0, c.1, within, there))
    go j e (inr (a)) (inr (b)) (inr (c)) =
        inl (omega (arith, a.0, a.1, b.0, b.1, c.0, c.1, within, there))

nth_distance : (count k : ℕ) → k < count → (steps i : ℕ) → i < count
    → ((m : ℕ) → m < steps → nth_after count i (suc m) ≡ k → ⊥) →
    (nth_after count i (suc steps) ≡ k)
    ⊎ (suc (distance count k i) ≤ distance count k (nth_after count i (suc steps)))
nth_distance count k there zero i within past = go (next_distance count k i within there)
  where
    go : (place_after count i ≡ k)
        ⊎ (distance count k (place_after count i) ≡ suc (distance count k i)) →
        (place_after count i ≡ k)
        ⊎ (suc (distance count k i) ≤ distance count k (place_after count i))
    go (inl e) = inl e
    go (inr e) = inr (omega (arith, e))
nth_distance count k there (suc steps) i within past = go (next_distance count k i within there)
    (nth_distance count k there steps (place_after count i)
    (place_fits count i (omega (arith, within)))
    (λ m less e. past (suc m) (omega (arith, less)) e))
  where
    go : (place_after count i ≡ k)
        ⊎ (distance count k (place_after count i) ≡ suc (distance count k i)) →
        (nth_after count (place_after count i) (suc steps) ≡ k)
        ⊎ (suc (distance count k (place_after count i)) ≤ distance count k
        (nth_after count (place_after count i) (suc steps))) →
        (nth_after count (place_after count i) (suc steps) ≡ k)
        ⊎ (suc (distance count k i)
        ≤ distance count k (nth_after count (place_after count i) (suc steps)))
    go (inl e) rest = absurd (past 0 (omega arith) e)
    go (inr e) (inl at) = inl at
    go (inr e) (inr far) = inr (omega (arith, e, far))

distance_small : (count k i : ℕ) → i < count → k < count → distance count k i < count
distance_small count k i within there = go (distance_is count k i)
  where
    go : ((i < k) × (distance count k i ≡ (count + i) - k))
        ⊎ ((k ≤ i) × (distance count k i ≡ i - k))
        → distance count k i < count
    go (inl d) = omega (arith, d.0, d.1, within, there)
    go (inr d) = omega (arith, d.0, d.1, within, there)

distance_some : (count k i : ℕ) → k < count → (i ≡ k → ⊥) → 0 < distance count k i
distance_some count k i there other = go (distance_is count k i) (cases_lt k i)
  where
    go : ((i < k) × (distance count k i ≡ (count + i) - k))
        ⊎ ((k ≤ i) × (distance count k i ≡ i - k))
        → (k < i) ⊎ (i ≤ k) → 0 < distance count k i
    go (inl d) e = omega (arith, d.0, d.1, there)
    go (inr d) (inl lt) = omega (arith, d.1, lt)
    go (inr d) (inr le) = absurd (other (omega (arith, d.0, le)))

-- ---- how long a station waits

-- So many requests have gone to others: at most a visit of each station between, and the present
-- visit.
pub record Waits (most count k before turn many : ℕ) : Type 0 where
  pub here : turn ≡ k → before ≡ 0
  pub away : (turn ≡ k → ⊥) → before ≤ most * (distance count k turn - 1) + many

waited-append : (k before : ℕ) (xs ys : List ℕ) → waited k before (xs ++ ys)
    ≡ waited k (waited k before xs) ys
waited-append k before [] ys = refl
waited-append k before (x ∷ xs) ys = waited-append k (if x == k then 0 else suc before) xs ys

counted : (k before s : ℕ) → (if s == k then 0 else suc before) ≤ suc before
counted k before s = go (s == k)
  where
    go : (b : Bool) → (if b then 0 else suc before) ≤ suc before
    go true = omega arith
    go false = omega arith

anew : (k before s : ℕ) → s ≡ k → (if s == k then 0 else suc before) ≡ 0
anew k before s at = go (s == k) refl
  where
    go : (b : Bool) → (s == k) ≡ b → (if b then 0 else suc before) ≡ 0
    go true e = refl
    go false e = absurd (eqb-false s k e at)

on_waits : (most count k before s turn many : ℕ) → s ≡ turn → Waits most count k before turn many
    → Waits most count k (if s == k then 0 else suc before) turn (suc many)
on_waits most count k before s turn many at w =
    record {
      here = λ e. anew k before s (at ∙ e);
      away =
          λ other. omega (arith, counted k before s, w.away other);
    }

begin_waits : (most count k before s turn many : ℕ) → k < count → many ≤ most
    → (s ≡ k) ⊎ (suc (distance count k turn) ≤ distance count k s) →
    Waits most count k before turn many → Waits most count k (if s == k then 0 else suc before) s 1
begin_waits most count k before s turn many there short far w =
    record { here = λ e. anew k before s e; away = λ other. go far other (cases_eq turn k) }
  where
    far_enough : (d : ℕ) → distance count k turn ≡ d → 0 < d → suc (distance count k turn)
        ≤ distance count k s →
        before ≤ most * (distance count k turn - 1) + many
        → (if s == k then 0 else suc before) ≤ most * (distance count k s - 1) + 1
    far_enough zero is some further waits = absurd (omega (arith, some))
    far_enough (suc d) is some further waits =
        let more : most * suc d ≤ most * (distance count k s - 1) =
        mul-le most (suc d) most (distance count k s - 1) (omega arith)
        (omega (arith, is, further)) in
        let same : most * (distance count k turn - 1) ≡ most * d =
        ap (λ (n : ℕ). most * n) (omega (arith, is)) in
        let one : most * suc d ≡ most * d + most = omega arith in
        omega (arith, counted k before s, waits, more, same, one, short)

    go : (s ≡ k) ⊎ (suc (distance count k turn) ≤ distance count k s) → (s ≡ k → ⊥) → (turn ≡ k)
        ⊎ (turn ≡ k → ⊥) →
        (if s == k then 0 else suc before) ≤ most * (distance count k s - 1) + 1
    go (inl at) other e = absurd (other at)
    go (inr further) other (inl at) = let none = w.here at in
        omega (arith, counted k before s, none)
    go (inr further) other (inr off) = far_enough (distance count k turn) refl
        (distance_some count k turn there off) further (w.away off)

pub waits_short : (most count k before turn many : ℕ) → turn < count → k < count → many ≤ most
    → Waits most count k before turn many → before ≤ most * (count - 1)
waits_short most count k before turn many within there short w = go (cases_eq turn k)
  where
    far : (d : ℕ) → distance count k turn ≡ d → 0 < d → before ≤ most * (distance count k turn - 1)
        + many
        → before ≤ most * (count - 1)
    far zero is some waits = absurd (omega (arith, some))
    far (suc d) is some waits =
        let small = distance_small count k turn within there in
        let more : most * suc d ≤ most * (count - 1) =
        mul-le most (suc d) most (count - 1) (omega arith) (omega (arith, is, small)) in
        let same : most * (distance count k turn - 1) ≡ most * d =
        ap (λ (n : ℕ). most * n) (omega (arith, is)) in
        let one : most * suc d ≡ most * d + most = omega arith in
        omega (arith, waits, more, same, one, short)

    go : (turn ≡ k) ⊎ (turn ≡ k → ⊥) → before ≤ most * (count - 1)
    go (inl at) = let none = w.here at in omega (arith, none)
    go (inr off) = far (distance count k turn) refl (distance_some count k turn there off)
        (w.away off)

-- who wants something isn't passed over
not_past : (p : Primary) (may_poll : Bool) (waiting : CommandsWaiting) (k place : ℕ)
    → ((may_poll ≡ true)
    ⊎ (IsLeftToPolls (station_at p.stations k) (waiting k) (station_at p.stations k).link
    → ⊥)) →
    wanted p.settings.burst may_poll false (station_at p.stations place) (waiting place) Starting
    ≡ None → place ≡ k
    → ⊥
not_past p may_poll waiting k place wants none at =
    let idle = left p.settings.burst may_poll (station_at p.stations k) (waiting k)
    (station_at p.stations k).link
    (subst (λ (i : ℕ). wanted p.settings.burst may_poll false (station_at p.stations i) (waiting i)
    Starting
    ≡ None) at none) in
    go idle wants
  where
    go : (may_poll ≡ false) × IsLeftToPolls (station_at p.stations k) (waiting k)
        (station_at p.stations k).link
        →
        (may_poll ≡ true)
        ⊎ (IsLeftToPolls (station_at p.stations k) (waiting k) (station_at p.stations k).link
        → ⊥) → ⊥
    go idle (inl leave) = let off = idle.0 in cc
    go idle (inr more) = more idle.1

-- the wait after a call
abbrev pub Waiting : LinkSettings → (addresses : List ℕ) → (k before : ℕ) → Primary → Exchanges
    → Type 0
Waiting settings addresses k before p e =
    (many : ℕ) × InVisit (front_of settings.size) addresses p e many
    × Waits (most_of_visit settings) (length addresses) k before p.turn many

ask_waits : (settings : LinkSettings) (addresses : List ℕ) (p p' : Primary) (e e' : Exchanges)
    (may_poll : Bool) (waiting : CommandsWaiting)
    (many k before : ℕ) (s : Option Sending) →
    k < length addresses → Matches settings addresses p e → many ≤ most_of_visit settings →
    ((z : Sending) → s ≡ Some z → (may_poll ≡ true)
    ⊎ (IsLeftToPolls (station_at p.stations k) (waiting k) (station_at p.stations k).link → ⊥)) →
    Waits (most_of_visit settings) (length addresses) k before p.turn many →
    IsAsked (front_of settings.size) addresses p may_poll waiting many p' e' s
    → Waiting settings addresses k (waited k before (station_in s)) p' e'
ask_waits settings addresses p p' e e' may_poll waiting many k before s there t short wants w
    (nothing none turn v) = (
      many,
      v,
      subst (λ (z : Option Sending). Waits (most_of_visit settings) (length addresses) k
          (waited k before (station_in z)) p'.turn many) (sym none)
          (subst (λ (i : ℕ). Waits (most_of_visit settings) (length addresses) k before i many)
          (sym turn) w),
    )
ask_waits settings addresses p p' e e' may_poll waiting many k before s there t short wants w
    (goes_on z is at turn v) = (
      suc many,
      v,
      subst (λ (y : Option Sending). Waits (most_of_visit settings) (length addresses) k
          (waited k before (station_in y)) p'.turn (suc many)) (sym is)
          (subst (λ (i : ℕ). Waits (most_of_visit settings) (length addresses) k
          (if z.station == k then 0 else suc before) i (suc many)) (sym turn)
          (on_waits (most_of_visit settings) (length addresses) k before z.station p.turn many at
          w)),
    )
ask_waits settings addresses p p' e e' may_poll waiting many k before s there t short wants w
    (begins c is free f within turn v) = (
      1,
      v,
      subst (λ (y : Option Sending). Waits (most_of_visit settings) (length addresses) k
          (waited k before (station_in y)) p'.turn 1) (sym is)
          (subst (λ (i : ℕ). Waits (most_of_visit settings) (length addresses) k
          (if c.station == k then 0 else suc before) i 1) (sym turn)
          (begin_waits (most_of_visit settings) (length addresses) k before c.station p.turn many
          there short far w)),
    )
  where
    round : (c.station ≡ k) ⊎ (suc (distance (length p.stations) k p.turn)
        ≤ distance (length p.stations) k c.station)
    round = subst (λ (j : ℕ). (j ≡ k)
        ⊎ (suc (distance (length p.stations) k p.turn) ≤ distance (length p.stations) k j))
        (sym f.station)
        (nth_distance (length p.stations) k (subst (λ (n : ℕ). k < n) (sym t.count) there) f.steps
        p.turn t.fits.turn
        (λ m less at. not_past p may_poll waiting k (nth_after (length p.stations) p.turn (suc m))
        (wants _ is)
        (f.nearer m less) at))

    far : (c.station ≡ k) ⊎ (suc (distance (length addresses) k p.turn)
        ≤ distance (length addresses) k c.station)
    far = subst (λ (n : ℕ). (c.station ≡ k) ⊎ (suc (distance n k p.turn) ≤ distance n k c.station))
        t.count round

short_visit : (settings : LinkSettings) (addresses : List ℕ) (p : Primary) (e : Exchanges)
    (many : ℕ)
    → Matches settings addresses p e →
    InVisit (front_of settings.size) addresses p e many → many ≤ most_of_visit settings
short_visit settings addresses p e many t v =
    subst (λ (s : LinkSettings). many ≤ most_of_visit s) t.settings_are
    (many_most (front_of settings.size) addresses p e many v)

stay_waits : (settings : LinkSettings) (addresses : List ℕ) (p : Primary) (e : Exchanges)
    (many k before : ℕ)
    (call : Call) → IsOther call → MayCall p call →
    Matches settings addresses p e → InVisit (front_of settings.size) addresses p e many →
    Waits (most_of_visit settings) (length addresses) k before p.turn many
    → Waiting settings addresses k before (called p call) (exchanged p call e)
stay_waits settings addresses p e many k before call other may t v w =
    let s = stays settings addresses p e many call other may t v in (
      many,
      s.0,
      subst (λ (i : ℕ). Waits (most_of_visit settings) (length addresses) k before i many)
          (sym s.1) w,
    )

call_waits : (settings : LinkSettings) (addresses : List ℕ) (p : Primary) (e : Exchanges)
    (call : Call) (k before : ℕ)
    → 0 < settings.burst → k < length addresses →
    MayCall p call → WantsAt p k call → Matches settings addresses p e
    → Waiting settings addresses k before p e →
    Waiting settings addresses k (waited k before (stations_by p call)) (called p call)
    (exchanged p call e)
call_waits settings addresses p e (Next now may_poll waiting) k before some there may wants t w =
    ask_waits settings addresses p (asked p now may_poll waiting) e
    (begun_by now (sending p may_poll waiting) e)
    may_poll waiting w.0 k before
    (sending p may_poll waiting) there t
    (short_visit settings addresses p e w.0 t w.1) wants w.2
    (asked_visits (front_of settings.size) addresses p e w.0 now may_poll waiting
    (burst_there settings addresses p e t some)
    (own_matches settings addresses p e t) w.1)
call_waits settings addresses p e (Octets octets) k before some there may wants t w =
    stay_waits settings addresses p e w.0 k before (Octets octets) tt may t w.1 w.2
call_waits settings addresses p e (Due now) k before some there may wants t w =
    stay_waits settings addresses p e w.0 k before (Due now) tt may t w.1 w.2
call_waits settings addresses p e (GivesUp station) k before some there may wants t w =
    stay_waits settings addresses p e w.0 k before (GivesUp station) tt may t w.1 w.2
call_waits settings addresses p e Doubts k before some there may wants t w =
    stay_waits settings addresses p e w.0 k before Doubts tt may t w.1 w.2

calls_wait : (settings : LinkSettings) (addresses : List ℕ) → IsStable (front_of settings.size)
    → (p : Primary) (e : Exchanges) (calls : List Call) (k before : ℕ) →
    0 < settings.burst → k < length addresses → MayCallAll p calls → AlwaysWants p k calls
    → Matches settings addresses p e → Waiting settings addresses k before p e →
    waited k before (stations_asked p calls) ≤ most_of_visit settings * (length addresses - 1)
calls_wait settings addresses stable p e [] k before some there may wants t w =
    waits_short (most_of_visit settings) (length addresses) k before p.turn w.0
    (subst (λ (n : ℕ). p.turn < n) t.count t.fits.turn) there
    (short_visit settings addresses p e w.0 t w.1) w.2
calls_wait settings addresses stable p e (call ∷ calls) k before some there may wants t w =
    subst (λ (n : ℕ). n ≤ most_of_visit settings * (length addresses - 1))
    (sym (waited-append k before (stations_by p call) (stations_asked (called p call) calls)))
    (calls_wait settings addresses stable (called p call) (exchanged p call e) calls k
    (waited k before (stations_by p call)) some there may.1 wants.1
    (call_matches settings addresses stable p e call may.0 t)
    (call_waits settings addresses p e call k before some there may.0 wants.0 t w))

pub run_waits : (settings : LinkSettings) (addresses : List ℕ) → IsStable (front_of settings.size)
    → (first later : List Call) (k : ℕ) →
    0 < length addresses → All (FitsAddress settings.size) addresses → 0 < settings.burst
    → k < length addresses →
    MayCallAll (start settings addresses) first
    → MayCallAll (after_first settings addresses first) later
    → AlwaysWants (after_first settings addresses first) k later →
    waited k 0 (stations_asked (after_first settings addresses first) later)
    ≤ most_of_visit settings *
    (length addresses - 1)
run_waits settings addresses stable first later k some fit burst there may_first may_later wants =
    let v = run_visit settings addresses stable first some fit burst may_first in
    calls_wait settings addresses stable (after_first settings addresses first)
    (exchanged_all (start settings addresses) first no_exchanges) later k 0 burst there may_later
    wants
    (run_matches_it settings addresses stable first some fit may_first)
    (v.0, v.1, record { here = λ e. refl; away = λ other. omega arith })
