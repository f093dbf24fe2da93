-- The present visit, and what asking for a request makes of it.
use Rattle.std.specs.Prelude.{◌==◌}
use Rattle.std.proofs.Common.{◌≡◌, ℕ, suc, ◌<◌, ◌≤◌, Bool, true, false, List, [], ◌∷◌, ◌++◌, length}
use Rattle.std.proofs.Common.{slice_index, Option, Some, None, refl, sym, ap, subst, ◌∙◌, arith}
use Rattle.std.proofs.Common.{if◌then◌else◌, append_assoc}
use Rattle.std.proofs.lemmas.Bool.{eqb-false}
use Rattle.ft12.specs.declared.frame.Front.{Front}
use Rattle.link.specs.Exchanges.{Exchange, LineExchange, OpenExchange, Exchanges, Sending, as_list}
use Rattle.link.specs.Exchanges.{all_of, with_station, view, views, begun_by}
use Rattle.link.specs.Procedure.{LinkSettings, Link, Down, MaySend, after, link_after}
use Rattle.link.specs.Turns.{StationState, station_at, Phase, Starting, Over, Wanted, wanted}
use Rattle.link.specs.Turns.{Chosen, chosen_or, first_after}
use Rattle.link.specs.Primary.{Outstanding, Primary, after_choice, asked_from, asked, sending_by}
use Rattle.link.specs.Primary.{sending_from, sending, station_asked}
use Rattle.link.specs.Matching.{MatchesBy}
use Rattle.link.specs.Visits.{Left, whole_visit, MayFollow, Visit, at_station, line_of, AreVisits}
use Rattle.link.specs.Visits.{AreInVisits, most_of_visit}
use Rattle.link.proofs.Beginning.{IsBegun, none_known, begun_choice, begun_none}
use Rattle.link.proofs.Choice.{MayWant, MayChooseIt, at_may, first_may}
use Rattle.link.proofs.Links.{set_view, with_station-append, views-append}
use Rattle.link.proofs.Called.{links_at}
use Rattle.link.proofs.Turning.{IsFound, found, present}
use Rattle.link.proofs.Visiting.{Leads, leads_visit, leads_on, visit_room, whole_room, Awaits}
use Rattle.link.proofs.Visiting.{IsReady, over, Follows, FollowsIt, ready_follows, begin_follows}
use Rattle.link.specs.Turns.{CommandsWaiting}

-- ---- lists

nil : {A : Type 0} (xs : List A) → xs ++ [] ≡ xs
nil {A} [] = refl
nil {A} (x ∷ xs) = ap (λ (ys : List A). x ∷ ys) (nil xs)

at-append : (i : ℕ) (xs ys : List Exchange) → at_station i (xs ++ ys) ≡ at_station i xs
    ++ at_station i ys
at-append i [] ys = refl
at-append i (x ∷ xs) ys = ap (λ (es : List LineExchange). record { station = i; exchange = x } ∷ es)
    (at-append i xs ys)

same_place : (i : ℕ) → (i == i) ≡ true
same_place i = go (i == i) refl
  where
    go : (b : Bool) → (i == i) ≡ b → (i == i) ≡ true
    go true e = e
    go false e = absurd (eqb-false i i e refl)

with-at : (i : ℕ) (xs : List Exchange) → with_station i (at_station i xs) ≡ xs
with-at i [] = refl
with-at i (x ∷ xs) =
    ap (λ (b : Bool). if b then x ∷ with_station i (at_station i xs)
    else with_station i (at_station i xs))
    (same_place i)
    ∙ ap (λ (es : List Exchange). x ∷ es) (with-at i xs)

pub link_append : (settings : LinkSettings) (a : ℕ) (link : Link) (xs ys : List Exchange) →
    link_after settings a link (xs ++ ys) ≡ link_after settings a (link_after settings a link xs) ys
link_append settings a link [] ys = refl
link_append settings a link (x ∷ xs) ys = link_append settings a (after settings a x link) xs ys

pub one_longer : (xs : List Exchange) (x : Exchange) (n : ℕ) → length xs ≡ n → length (xs ++ x ∷ [])
    ≡ suc n
one_longer [] x n is = ap (λ (m : ℕ). suc m) is
one_longer (y ∷ ys) x n is = ap (λ (m : ℕ). suc m) (one_longer ys x (length ys) refl)
    ∙ ap (λ (m : ℕ). suc m) is

-- ---- the present visit

abbrev pub shown : (front : List ℕ → Front) → Option OpenExchange → List Exchange
shown front None = []
shown front (Some x) = (view front x).exchange ∷ []

-- the link of a station that these visits leave
abbrev pub link_left : LinkSettings → (addresses : List ℕ) → List Visit → (station : ℕ) → Link
link_left settings addresses visits station = link_after settings (slice_index addresses station)
    Down
    (with_station station (line_of visits))

abbrev pub IsLatest : LinkSettings → Link → (turn : ℕ) → (mid now : Left) → Option OpenExchange
    → Type 0
IsLatest settings link turn mid now None = now ≡ mid
IsLatest settings link turn mid now (Some x) = (x.station ≡ turn) × MaySend link x.request
    × MayFollow settings link mid x.request now

abbrev pub FitsPhase : LinkSettings → Option Outstanding → (again : Bool) → Phase → Link → Left
    → Type 0
FitsPhase settings None again phase link left = IsReady settings again phase link left
FitsPhase settings (Some o) again phase link left = (again ≡ false)
    × Awaits settings o.request phase link left

-- The present visit has so many exchanges.
pub record InVisit (front : List ℕ → Front) (addresses : List ℕ) (p : Primary) (e : Exchanges)
    (many : ℕ) : Type 0 where
  pub earlier : List Visit
  pub are : AreVisits p.settings addresses earlier
  pub before : List Exchange
  pub mid : Left
  pub now : Left
  pub leads : Leads p.settings (slice_index addresses p.turn)
      (link_left p.settings addresses earlier p.turn)
      (whole_visit p.settings (link_left p.settings addresses earlier p.turn)) before mid
  pub ended : views front e.ended ≡ line_of earlier ++ at_station p.turn before
  pub first : e.current ≡ None → e.ended ≡ []
  pub latest : IsLatest p.settings (link_after p.settings (slice_index addresses p.turn)
      (link_left p.settings addresses earlier p.turn) before) p.turn mid now e.current
  pub fits : FitsPhase p.settings p.outstanding p.again p.phase (station_at p.stations p.turn).link
      now
  pub begun : IsBegun p
  pub many_are : length (before ++ shown front e.current) ≡ many

pub whole_leads : (front : List ℕ → Front) (settings : LinkSettings) (a turn : ℕ) (link : Link)
    (left mid now : Left)
    (before : List Exchange) (cur : Option OpenExchange) →
    Leads settings a link left before mid → IsLatest settings (link_after settings a link before)
    turn mid now cur →
    Leads settings a link left (before ++ shown front cur) now
whole_leads front settings a turn link left mid now before None leads latest =
    subst (λ (xs : List Exchange). Leads settings a link left xs now) (sym (nil before))
    (subst (λ (m : Left). Leads settings a link left before m) (sym latest) leads)
whole_leads front settings a turn link left mid now before (Some x) leads latest =
    leads_on settings a link left before (view front x).exchange mid now leads latest.1 latest.2

shown_there : (front : List ℕ → Front) (settings : LinkSettings) (link : Link) (turn : ℕ)
    (mid now : Left)
    (cur : Option OpenExchange) →
    IsLatest settings link turn mid now cur → views front (as_list cur)
    ≡ at_station turn (shown front cur)
shown_there front settings link turn mid now None latest = refl
shown_there front settings link turn mid now (Some x) latest =
    ap (λ (i : ℕ). record { station = i; exchange = (view front x).exchange } ∷ []) latest.0

pub leads_all : (front : List ℕ → Front) (addresses : List ℕ) (p : Primary) (e : Exchanges)
    (many : ℕ)
    → (v : InVisit front addresses p e many) →
    Leads p.settings (slice_index addresses p.turn)
    (link_left p.settings addresses v.earlier p.turn)
    (whole_visit p.settings (link_left p.settings addresses v.earlier p.turn))
    (v.before ++ shown front e.current) v.now
leads_all front addresses p e many v = whole_leads front p.settings
    (slice_index addresses p.turn) p.turn _ _ v.mid v.now v.before e.current v.leads v.latest

pub whole_line : (front : List ℕ → Front) (addresses : List ℕ) (p : Primary) (e : Exchanges)
    (many : ℕ)
    → (v : InVisit front addresses p e many) →
    line_of v.earlier ++ at_station p.turn (v.before ++ shown front e.current)
    ≡ views front (all_of e)
whole_line front addresses p e many v =
    ap (λ (es : List LineExchange). line_of v.earlier ++ es)
    (at-append p.turn v.before (shown front e.current))
    ∙ sym (append_assoc (line_of v.earlier) (at_station p.turn v.before)
    (at_station p.turn (shown front e.current)))
    ∙ ap (λ (es : List LineExchange). es ++ at_station p.turn (shown front e.current)) (sym v.ended)
    ∙ ap (λ (es : List LineExchange). views front e.ended ++ es)
    (sym (shown_there front p.settings _ p.turn v.mid v.now e.current v.latest))
    ∙ sym (views-append front e.ended (as_list e.current))

pub in_visits : (front : List ℕ → Front) (addresses : List ℕ) (p : Primary) (e : Exchanges)
    (many : ℕ)
    → InVisit front addresses p e many →
    AreInVisits p.settings addresses (views front (all_of e))
in_visits front addresses p e many v = record {
  visits = record { station = p.turn; exchanges = v.before ++ shown front e.current } ∷ v.earlier;
  are = (
    leads_visit p.settings (slice_index addresses p.turn) _ _ _ v.now
        (leads_all front addresses p e many v),
    v.are,
  );
  whole = whole_line front addresses p e many v;
}

-- a visit is short
pub many_most : (front : List ℕ → Front) (addresses : List ℕ) (p : Primary) (e : Exchanges)
    (many : ℕ)
    → InVisit front addresses p e many →
    many ≤ most_of_visit p.settings
many_most front addresses p e many v =
    let short = visit_room p.settings (slice_index addresses p.turn)
    (link_left p.settings addresses v.earlier p.turn) _ _
    (leads_visit p.settings (slice_index addresses p.turn) _ _ _ v.now
    (leads_all front addresses p e many v)) in
    omega (
      arith,
      short,
      whole_room p.settings (link_left p.settings addresses v.earlier p.turn),
      v.many_are,
    )

-- while nothing is outstanding, the link that the present visit leaves is the machine's
link_now : (front : List ℕ → Front) (addresses : List ℕ) (p : Primary) (e : Exchanges) (many : ℕ)
    → (v : InVisit front addresses p e many) →
    MatchesBy front p.settings addresses p e → p.outstanding ≡ None →
    link_after p.settings (slice_index addresses p.turn)
    (link_left p.settings addresses v.earlier p.turn) (v.before
    ++ shown front e.current)
    ≡ (station_at p.stations p.turn).link
link_now front addresses p e many v t free =
    let a = slice_index addresses p.turn in
    let xs = v.before ++ shown front e.current in
    sym (link_append p.settings a Down (with_station p.turn (line_of v.earlier)) xs)
    ∙ ap (λ (ys : List Exchange). link_after p.settings a Down
    (with_station p.turn (line_of v.earlier) ++ ys))
    (sym (with-at p.turn xs))
    ∙ ap (λ (ys : List Exchange). link_after p.settings a Down ys)
    (sym (with_station-append p.turn (line_of v.earlier) (at_station p.turn xs)))
    ∙ ap (λ (es : List LineExchange). link_after p.settings a Down (with_station p.turn es))
    (whole_line front addresses p e many v)
    ∙ links_at front p.settings addresses p e None free t p.turn

-- ---- `next`

-- what asking does: nothing goes out, or the present visit goes on, or another one begins
pub data IsAsked (front : List ℕ → Front) (addresses : List ℕ) (p : Primary) (may_poll : Bool)
    (waiting : CommandsWaiting)
    (many : ℕ)
    (p' : Primary) (e' : Exchanges) (s : Option Sending) : Type 0 where
  nothing : s ≡ None → p'.turn ≡ p.turn → InVisit front addresses p' e' many
      → IsAsked front addresses p may_poll waiting many p' e' s
  goes_on : (z : Sending) → s ≡ Some z → z.station ≡ p.turn → p'.turn ≡ p.turn
      → InVisit front addresses p' e' (suc many) →
      IsAsked front addresses p may_poll waiting many p' e' s
  begins : (c : Chosen) → s ≡ Some (record { station = c.station; request = c.wanted.request })
      → p.outstanding ≡ None →
      IsFound p.settings.burst may_poll p.stations waiting (length p.stations) p.turn c → c.station
      < length p.stations
      → p'.turn ≡ c.station →
      InVisit front addresses p' e' 1 → IsAsked front addresses p may_poll waiting many p' e' s

pub may_want : (p : Primary) (e : Exchanges) (front : List ℕ
    → Front) (addresses : List ℕ) (may_poll : Bool) (waiting : CommandsWaiting) (again : Bool)
    (place : ℕ) (phase : Phase) (w : Wanted) →
    MatchesBy front p.settings addresses p e → place < length p.stations →
    wanted p.settings.burst may_poll again (station_at p.stations place) (waiting place) phase
    ≡ Some w
    → MaySend (station_at p.stations place).link w.request
may_want p e front addresses may_poll waiting again place phase w t within is =
    subst (λ (v : Option Wanted). MayWant (station_at p.stations place).link v) is
    (at_may p.settings.burst may_poll again p.stations waiting place phase)

on_visit : (front : List ℕ → Front) (addresses : List ℕ) (p : Primary) (e : Exchanges)
    (many now : ℕ) (may_poll : Bool) (waiting : CommandsWaiting)
    (w : Wanted) → 0 < p.settings.burst →
    MatchesBy front p.settings addresses p e → p.outstanding ≡ None → present p may_poll waiting
    ≡ Some w
    → InVisit front addresses p e many →
    InVisit front addresses (after_choice p now (Some (record { station = p.turn; wanted = w })))
    (begun_by now (Some (record { station = p.turn; request = w.request })) e) (suc many)
on_visit front addresses p e many now may_poll waiting w some t free is v =
    let here = link_now front addresses p e many v t free in
    let s : StationState = station_asked (station_at p.stations p.turn) w.request in
    let ready = subst (λ (o : Option Outstanding). FitsPhase p.settings o p.again p.phase
    (station_at p.stations p.turn).link v.now) free v.fits in
    let f : Follows p.settings (station_at p.stations p.turn).link v.now w =
    subst (λ (x : Option Wanted). FollowsIt p.settings (station_at p.stations p.turn).link v.now x)
    is
    (ready_follows p.settings may_poll p.again (station_at p.stations p.turn) (waiting p.turn)
    (station_at p.stations p.turn).link p.phase v.now some ready) in
    record {
      earlier = v.earlier;
      are = v.are;
      before = v.before ++ shown front e.current;
      mid = v.now;
      now = f.later;
      leads = leads_all front addresses p e many v;
      ended = sym (whole_line front addresses p e many v);
      first = λ none. cc;
      latest = (
        refl,
        subst (λ (l : Link). MaySend l w.request) (sym here)
            (may_want p e front addresses may_poll waiting p.again p.turn p.phase w t t.fits.turn
            is),
        subst (λ (l : Link). MayFollow p.settings l v.now w.request f.later) (sym here) f.follow,
      );
      fits = (
        refl,
        subst (λ (l : Link). Awaits p.settings w.request w.following l f.later)
            (sym (set_view (λ (r : StationState). r.link) p.stations p.turn s refl p.turn))
            f.awaits,
      );
      begun = begun_choice p now may_poll waiting p.again p.phase
          (record { station = p.turn; wanted = w })
          is
          (may_want p e front addresses may_poll waiting p.again p.turn p.phase w t t.fits.turn is)
          v.begun.away;
      many_are = one_longer (v.before ++ shown front e.current) _ many v.many_are;
    }

new_visit : (front : List ℕ → Front) (addresses : List ℕ) (p : Primary) (e : Exchanges)
    (many now : ℕ)
    (may_poll : Bool) (waiting : CommandsWaiting) (c : Chosen) → 0 < p.settings.burst →
    MatchesBy front p.settings addresses p e → p.outstanding ≡ None → present p may_poll waiting
    ≡ None
    → c.station < length p.stations →
    wanted p.settings.burst may_poll false (station_at p.stations c.station) (waiting c.station)
    Starting
    ≡ Some c.wanted
    → InVisit front addresses p e many →
    InVisit front addresses (after_choice p now (Some c))
    (begun_by now (Some (record { station = c.station; request = c.wanted.request })) e) 1
new_visit front addresses p e many now may_poll waiting c some t free gone within is v =
    let fresh = none_known p may_poll waiting free gone v.begun in
    let latest : Visit =
    record { station = p.turn; exchanges = v.before ++ shown front e.current } in
    let s : StationState = station_asked (station_at p.stations c.station) c.wanted.request in
    let here : link_left p.settings addresses (latest ∷ v.earlier) c.station
    ≡ (station_at p.stations c.station).link =
    ap (λ (es : List LineExchange). link_after p.settings (slice_index addresses c.station) Down
    (with_station c.station es)) (whole_line front addresses p e many v)
    ∙ links_at front p.settings addresses p e None free t c.station in
    let f : Follows p.settings (station_at p.stations c.station).link
    (whole_visit p.settings (station_at p.stations c.station).link) c.wanted =
    subst (λ (x : Option Wanted). FollowsIt p.settings (station_at p.stations c.station).link
    (whole_visit p.settings (station_at p.stations c.station).link) x) is
    (begin_follows p.settings may_poll (station_at p.stations c.station) (waiting c.station)
    (station_at p.stations c.station).link some
    (fresh c.station)) in
    record {
      earlier = latest ∷ v.earlier;
      are = (
        leads_visit p.settings (slice_index addresses p.turn) _ _ _ v.now
            (leads_all front addresses p e many v),
        v.are,
      );
      before = [];
      mid = whole_visit p.settings (link_left p.settings addresses (latest ∷ v.earlier) c.station);
      now = f.later;
      leads = refl;
      ended = sym (whole_line front addresses p e many v)
          ∙ sym (nil (line_of (latest ∷ v.earlier)));
      first = λ none. cc;
      latest = (
        refl,
        subst (λ (l : Link). MaySend l c.wanted.request) (sym here)
            (may_want p e front addresses may_poll waiting false c.station Starting c.wanted t
            within is),
        subst (λ (l : Link). MayFollow p.settings l (whole_visit p.settings l) c.wanted.request
            f.later)
            (sym here) f.follow,
      );
      fits = (
        refl,
        subst (λ (l : Link). Awaits p.settings c.wanted.request c.wanted.following l f.later)
            (sym (set_view (λ (r : StationState). r.link) p.stations c.station s refl c.station))
            f.awaits,
      );
      begun = begun_choice p now may_poll waiting false Starting c is
          (may_want p e front addresses may_poll waiting false c.station Starting c.wanted t within
          is)
          (λ i known. absurd (fresh i known));
      many_are = refl;
    }

no_visit : (front : List ℕ → Front) (addresses : List ℕ) (p : Primary) (e : Exchanges)
    (many now : ℕ) (may_poll : Bool) (waiting : CommandsWaiting)
    → p.outstanding ≡ None → present p may_poll waiting ≡ None →
    InVisit front addresses p e many → InVisit front addresses (after_choice p now None) e many
no_visit front addresses p e many now may_poll waiting free gone v = record {
  earlier = v.earlier;
  are = v.are;
  before = v.before;
  mid = v.mid;
  now = v.now;
  leads = v.leads;
  ended = v.ended;
  first = v.first;
  latest = v.latest;
  fits = subst (λ (o : Option Outstanding). FitsPhase p.settings o false Over
      (station_at p.stations p.turn).link v.now) (sym free) (over refl refl);
  begun = begun_none p now free (none_known p may_poll waiting free gone v.begun);
  many_are = v.many_are;
}

abbrev pub MayBeThere : Primary → Option Chosen → Type 0
MayBeThere p None = Unit {0}
MayBeThere p (Some c) = c.station < length p.stations

pub rest_there : (front : List ℕ → Front) (addresses : List ℕ) (p : Primary) (e : Exchanges)
    (may_poll : Bool) (waiting : CommandsWaiting)
    → MatchesBy front p.settings addresses p e →
    MayBeThere p (first_after p.settings.burst may_poll p.stations waiting (length p.stations)
    p.turn)
rest_there front addresses p e may_poll waiting t =
    go (first_after p.settings.burst may_poll p.stations waiting (length p.stations) p.turn)
    (first_may p.settings.burst may_poll p.stations waiting (length p.stations) p.turn
    (omega (arith, t.fits.turn)))
  where
    go : (c : Option Chosen) → MayChooseIt p.stations c → MayBeThere p c
    go None may = tt
    go (Some c) may = may.within

pub asked_visits : (front : List ℕ → Front) (addresses : List ℕ) (p : Primary) (e : Exchanges)
    (many now : ℕ)
    (may_poll : Bool) (waiting : CommandsWaiting) → 0 < p.settings.burst →
    MatchesBy front p.settings addresses p e → InVisit front addresses p e many →
    IsAsked front addresses p may_poll waiting many (asked p now may_poll waiting)
    (begun_by now (sending p may_poll waiting) e)
    (sending p may_poll waiting)
asked_visits front addresses p e many now may_poll waiting some t v = go p.outstanding refl
  where
    rest : Option Chosen
    rest = first_after p.settings.burst may_poll p.stations waiting (length p.stations) p.turn

    by_rest : p.outstanding ≡ None → present p may_poll waiting ≡ None → (r : Option Chosen)
        → rest ≡ r
        → MayBeThere p r →
        IsAsked front addresses p may_poll waiting many (after_choice p now r)
        (begun_by now (sending_by r) e) (sending_by r)
    by_rest free gone None is there =
        nothing refl refl (no_visit front addresses p e many now may_poll waiting free gone v)
    by_rest free gone (Some c) is there =
        let f = found p.settings.burst may_poll p.stations waiting (length p.stations) p.turn c
        is in
        begins c refl free f there refl (new_visit front addresses p e many now may_poll waiting c
        some t
        free gone there
        f.first v)

    by_present : p.outstanding ≡ None → (w : Option Wanted) → present p may_poll waiting ≡ w →
        IsAsked front addresses p may_poll waiting many
        (after_choice p now (chosen_or w p.turn rest))
        (begun_by now (sending_by (chosen_or w p.turn rest)) e)
        (sending_by (chosen_or w p.turn rest))
    by_present free None is =
        by_rest free is rest refl (rest_there front addresses p e may_poll waiting t)
    by_present free (Some w) is =
        goes_on (record { station = p.turn; request = w.request }) refl refl refl
        (on_visit front addresses p e many now may_poll waiting w some t free is v)

    go : (o : Option Outstanding) → p.outstanding ≡ o →
        IsAsked front addresses p may_poll waiting many (asked_from p o now may_poll waiting)
        (begun_by now (sending_from p o may_poll waiting) e) (sending_from p o may_poll waiting)
    go (Some o) is = nothing refl refl v
    go None is = by_present is (present p may_poll waiting) refl
