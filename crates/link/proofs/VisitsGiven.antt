-- The link to a station is given up: the exchanges of the line are visits still.
use Rattle.std.specs.Prelude.{◌==◌}
use Rattle.std.proofs.Common.{◌≡◌, ℕ, ◌<◌, ◌&&◌, ◌||◌, not, Bool, true, false, List, [], ◌∷◌, ◌++◌}
use Rattle.std.proofs.Common.{length, slice_index, slice_set, Option, Some, None, refl, sym, ap}
use Rattle.std.proofs.Common.{subst, ◌∙◌, if◌then◌else◌}
use Rattle.std.proofs.lemmas.Bool.{eqb-true, eqb-false}
use Rattle.std.proofs.lemmas.List.{get_or-set_other}
use Rattle.ft12.specs.declared.frame.Front.{Front}
use Rattle.link.specs.Exchanges.{Exchange, LineExchange, OpenExchange, Exchanges, with_station}
use Rattle.link.specs.Exchanges.{view}
use Rattle.link.specs.Exchanges.{views, marked, has_one_with, latest_marked, given_up_from}
use Rattle.link.specs.Exchanges.{given_up_at}
use Rattle.link.specs.Marks.{given_up_behind, latest_given_up}
use Rattle.link.specs.Procedure.{LinkSettings, Link, Down, after, link_after}
use Rattle.link.specs.Turns.{StationState, no_station, Over, station_at}
use Rattle.link.specs.Primary.{Primary}
use Rattle.link.specs.Visits.{Left, whole_visit, IsVisitFrom, Visit, at_station, line_of, AreVisits}
use Rattle.link.specs.Visits.{IsVisit}
use Rattle.link.specs.Carried.{station_given_up, given_up}
use Rattle.link.proofs.Beginning.{begun_given_up}
use Rattle.link.proofs.GivenUpMatches.{latest_from}
use Rattle.link.proofs.Visiting.{Leads, over}
use Rattle.link.proofs.VisitAsked.{shown, link_left, IsLatest, FitsPhase, InVisit, one_longer}
use Rattle.link.proofs.VisitRuns.{Stays}

-- ---- the mark, on a line

abbrev has_at : (k : ℕ) → List LineExchange → Bool
has_at k [] = false
has_at k (e ∷ es) = (e.station == k) || has_at k es

abbrev given_line : LineExchange → LineExchange
given_line e = record { station = e.station; exchange = given_up_behind e.exchange }

abbrev line_given : (k : ℕ) → List LineExchange → List LineExchange
line_given k [] = []
line_given k (e ∷ es) =
    if (e.station == k) && not (has_at k es) then given_line e ∷ es else e ∷ line_given k es

views_has : (front : List ℕ → Front) (k : ℕ) (xs : List OpenExchange)
    → has_at k (views front xs) ≡ has_one_with k xs
views_has front k [] = refl
views_has front k (x ∷ xs) = ap (λ (b : Bool). (x.station == k) || b) (views_has front k xs)

views_given : (front : List ℕ → Front) (k : ℕ) (xs : List OpenExchange)
    → views front (latest_marked k xs) ≡ line_given k (views front xs)
views_given front k [] = refl
views_given front k (x ∷ xs) =
    go ((x.station == k) && not (has_one_with k xs)) (views_given front k xs)
    ∙ ap (λ (h : Bool). if (x.station == k) && not h then given_line (view front x) ∷ views front xs
    else view front x ∷ line_given k (views front xs)) (sym (views_has front k xs))
  where
    go : (b : Bool) → views front (latest_marked k xs) ≡ line_given k (views front xs) →
        views front (if b then marked x ∷ xs else x ∷ latest_marked k xs)
        ≡ (if b then given_line (view front x) ∷ views front xs
        else view front x ∷ line_given k (views front xs))
    go true ih = refl
    go false ih = ap (λ (es : List LineExchange). view front x ∷ es) ih

or_both : (a b c : Bool) → (a || (b || c)) ≡ ((a || b) || c)
or_both true b c = refl
or_both false b c = refl

has_both : (k : ℕ) (es fs : List LineExchange) → has_at k (es ++ fs)
    ≡ (has_at k es || has_at k fs)
has_both k [] fs = refl
has_both k (e ∷ es) fs =
    ap (λ (b : Bool). (e.station == k) || b) (has_both k es fs)
    ∙ or_both (e.station == k) (has_at k es) (has_at k fs)

or_true : (b : Bool) → (b || true) ≡ true
or_true true = refl
or_true false = refl

or_false : (b : Bool) → (b || false) ≡ b
or_false true = refl
or_false false = refl

and_false : (b : Bool) → (b && false) ≡ false
and_false true = refl
and_false false = refl

-- in the later part, if an exchange of that part is with the station
given_later : (k : ℕ) (es fs : List LineExchange) → has_at k fs ≡ true
    → line_given k (es ++ fs) ≡ es ++ line_given k fs
given_later k [] fs some = refl
given_later k (e ∷ es) fs some =
    ap (λ (h : Bool). if (e.station == k) && not h then given_line e ∷ (es ++ fs)
    else e ∷ line_given k (es ++ fs))
    (has_both k es fs ∙ ap (λ (b : Bool). has_at k es || b) some ∙ or_true (has_at k es))
    ∙ ap (λ (b : Bool). if b then given_line e ∷ (es ++ fs) else e ∷ line_given k (es ++ fs))
    (and_false (e.station == k))
    ∙ ap (λ (l : List LineExchange). e ∷ l) (given_later k es fs some)

none_given : (k : ℕ) (fs : List LineExchange) → has_at k fs ≡ false → line_given k fs ≡ fs
none_given k [] none = refl
none_given k (f ∷ fs) none = go (f.station == k) none (λ no. none_given k fs no)
  where
    go : (b : Bool) → (b || has_at k fs) ≡ false
        → (has_at k fs ≡ false → line_given k fs ≡ fs) →
        (if b && not (has_at k fs) then given_line f ∷ fs else f ∷ line_given k fs) ≡ f ∷ fs
    go true none ih = cc
    go false none ih = ap (λ (l : List LineExchange). f ∷ l) (ih none)

-- or else in the earlier one
given_earlier : (k : ℕ) (es fs : List LineExchange) → has_at k fs ≡ false
    → line_given k (es ++ fs) ≡ line_given k es ++ fs
given_earlier k [] fs none = none_given k fs none
given_earlier k (e ∷ es) fs none =
    ap (λ (h : Bool). if (e.station == k) && not h then given_line e ∷ (es ++ fs)
    else e ∷ line_given k (es ++ fs))
    (has_both k es fs ∙ ap (λ (b : Bool). has_at k es || b) none ∙ or_false (has_at k es))
    ∙ go ((e.station == k) && not (has_at k es)) (given_earlier k es fs none)
  where
    go : (b : Bool) → line_given k (es ++ fs) ≡ line_given k es ++ fs →
        (if b then given_line e ∷ (es ++ fs) else e ∷ line_given k (es ++ fs))
        ≡ (if b then given_line e ∷ es else e ∷ line_given k es) ++ fs
    go true ih = refl
    go false ih = ap (λ (l : List LineExchange). e ∷ l) ih

-- each other station's exchanges are as they were
others_given : (j k : ℕ) (es : List LineExchange) → (j ≡ k → ⊥)
    → with_station j (line_given k es) ≡ with_station j es
others_given j k [] other = refl
others_given j k (e ∷ es) other =
    go (e.station == k) (has_at k es) (e.station == j) refl refl (others_given j k es other)
  where
    go : (b h d : Bool) → (e.station == k) ≡ b → (e.station == j) ≡ d →
        with_station j (line_given k es) ≡ with_station j es →
        with_station j (if b && not h then given_line e ∷ es else e ∷ line_given k es)
        ≡ (if d then e.exchange ∷ with_station j es else with_station j es)
    go true false true here there ih =
        absurd (other (sym (eqb-true e.station j there) ∙ eqb-true e.station k here))
    go true false false here there ih =
        ap (λ (c : Bool). if c then given_up_behind e.exchange ∷ with_station j es
        else with_station j es) there
    go true true d here there ih =
        ap (λ (c : Bool). if c then e.exchange ∷ with_station j (line_given k es)
        else with_station j (line_given k es)) there
        ∙ ap (λ (l : List Exchange). if d then e.exchange ∷ l else l) ih
    go false h d here there ih =
        ap (λ (c : Bool). if c then e.exchange ∷ with_station j (line_given k es)
        else with_station j (line_given k es)) there
        ∙ ap (λ (l : List Exchange). if d then e.exchange ∷ l else l) ih

-- the exchanges of one visit
at_none : (i k : ℕ) (xs : List Exchange) → (i == k) ≡ false → has_at k (at_station i xs) ≡ false
at_none i k [] other = refl
at_none i k (x ∷ xs) other =
    ap (λ (b : Bool). b || has_at k (at_station i xs)) other ∙ at_none i k xs other

at_some : (i k : ℕ) (x : Exchange) (xs : List Exchange) → (i == k) ≡ true
    → has_at k (at_station i (x ∷ xs)) ≡ true
at_some i k x xs here = ap (λ (b : Bool). b || has_at k (at_station i xs)) here

at_given : (i k : ℕ) (xs : List Exchange) → (i == k) ≡ true
    → line_given k (at_station i xs) ≡ at_station i (latest_given_up xs)
at_given i k [] here = refl
at_given i k (x ∷ []) here =
    ap (λ (b : Bool). if b && true then record { station = i; exchange = given_up_behind x } ∷ []
    else record { station = i; exchange = x } ∷ []) here
at_given i k (x ∷ (y ∷ ys)) here =
    ap (λ (h : Bool). if (i == k) && not h
    then record { station = i; exchange = given_up_behind x } ∷ at_station i (y ∷ ys)
    else record { station = i; exchange = x } ∷ line_given k (at_station i (y ∷ ys)))
    (at_some i k y ys here)
    ∙ ap (λ (b : Bool). if b
    then record { station = i; exchange = given_up_behind x } ∷ at_station i (y ∷ ys)
    else record { station = i; exchange = x } ∷ line_given k (at_station i (y ∷ ys)))
    (and_false (i == k))
    ∙ ap (λ (l : List LineExchange). record { station = i; exchange = x } ∷ l)
    (at_given i k (y ∷ ys) here)

-- ---- the mark, on visits

abbrev at_visit : Visit → (earlier rest : List Visit) → List Exchange → List Visit
at_visit v earlier rest [] = v ∷ rest
at_visit v earlier rest (x ∷ xs) =
    record { station = v.station; exchanges = latest_given_up (x ∷ xs) } ∷ earlier

abbrev visits_given : (k : ℕ) → List Visit → List Visit
visits_given k [] = []
visits_given k (v ∷ earlier) =
    if v.station == k then at_visit v earlier (visits_given k earlier) v.exchanges
    else v ∷ visits_given k earlier

line_visits : (k : ℕ) (visits : List Visit)
    → line_of (visits_given k visits) ≡ line_given k (line_of visits)
line_visits k [] = refl
line_visits k (v ∷ earlier) = go (v.station == k) refl (line_visits k earlier)
  where
    own : (v.station == k) ≡ true → line_of (visits_given k earlier)
        ≡ line_given k (line_of earlier) → (xs : List Exchange) → v.exchanges ≡ xs →
        line_of (at_visit v earlier (visits_given k earlier) xs)
        ≡ line_given k (line_of earlier ++ at_station v.station xs)
    own here ih [] is =
        ap (λ (es : List LineExchange). es ++ at_station v.station v.exchanges) ih
        ∙ ap (λ (xs : List Exchange). line_given k (line_of earlier) ++ at_station v.station xs) is
        ∙ sym (given_earlier k (line_of earlier) [] refl)
    own here ih (x ∷ xs) is =
        ap (λ (es : List LineExchange). line_of earlier ++ es)
        (sym (at_given v.station k (x ∷ xs) here))
        ∙ sym (given_later k (line_of earlier) (at_station v.station (x ∷ xs))
        (at_some v.station k x xs here))

    go : (b : Bool) → (v.station == k) ≡ b
        → line_of (visits_given k earlier) ≡ line_given k (line_of earlier) →
        line_of (if b then at_visit v earlier (visits_given k earlier) v.exchanges
        else v ∷ visits_given k earlier)
        ≡ line_given k (line_of earlier ++ at_station v.station v.exchanges)
    go true here ih = own here ih v.exchanges refl
    go false other ih =
        ap (λ (es : List LineExchange). es ++ at_station v.station v.exchanges) ih
        ∙ sym (given_earlier k (line_of earlier) (at_station v.station v.exchanges)
        (at_none v.station k v.exchanges other))

-- the link that they leave to each other station
left_given : (settings : LinkSettings) (addresses : List ℕ) (k j : ℕ) (visits : List Visit)
    → (j ≡ k → ⊥)
    → link_left settings addresses (visits_given k visits) j
    ≡ link_left settings addresses visits j
left_given settings addresses k j visits other =
    ap (λ (xs : List Exchange). link_after settings (slice_index addresses j) Down xs)
    (ap (λ (es : List LineExchange). with_station j es) (line_visits k visits)
    ∙ others_given j k (line_of visits) other)

visit_given : (settings : LinkSettings) (a : ℕ) (link : Link) (left : Left) (xs : List Exchange)
    → IsVisitFrom settings a link left xs → IsVisitFrom settings a link left (latest_given_up xs)
visit_given settings a link left [] v = tt
visit_given settings a link left (x ∷ []) v = (v.0, (v.1.0, v.1.1, tt))
visit_given settings a link left (x ∷ (y ∷ ys)) v = (
  v.0,
  (v.1.0, v.1.1, visit_given settings a (after settings a x link) v.1.0 (y ∷ ys) v.1.2),
)

visits_still : (settings : LinkSettings) (addresses : List ℕ) (k : ℕ) (visits : List Visit)
    → AreVisits settings addresses visits → AreVisits settings addresses (visits_given k visits)
visits_still settings addresses k [] are = tt
visits_still settings addresses k (v ∷ earlier) are =
    go (v.station == k) refl (visits_still settings addresses k earlier are.1)
  where
    a : ℕ
    a = slice_index addresses v.station

    own : AreVisits settings addresses (visits_given k earlier) → (xs : List Exchange)
        → v.exchanges ≡ xs →
        AreVisits settings addresses (at_visit v earlier (visits_given k earlier) xs)
    own ih [] is = (
      subst (λ (xs : List Exchange). IsVisit settings (slice_index addresses v.station)
          (link_left settings addresses (visits_given k earlier) v.station) xs) (sym is) tt,
      ih,
    )
    own ih (x ∷ xs) is = (
      visit_given settings a (link_left settings addresses earlier v.station)
          (whole_visit settings (link_left settings addresses earlier v.station)) (x ∷ xs)
          (subst (λ (xs : List Exchange). IsVisit settings (slice_index addresses v.station)
          (link_left settings addresses earlier v.station) xs) is are.0),
      are.1,
    )

    go : (b : Bool) → (v.station == k) ≡ b
        → AreVisits settings addresses (visits_given k earlier) →
        AreVisits settings addresses
        (if b then at_visit v earlier (visits_given k earlier) v.exchanges
        else v ∷ visits_given k earlier)
    go true here ih = own ih v.exchanges refl
    go false other ih = (
      subst (λ (l : Link). IsVisit settings (slice_index addresses v.station) l v.exchanges)
          (sym (left_given settings addresses k v.station earlier (eqb-false v.station k other)))
          are.0,
      ih,
    )

-- ---- the present visit

-- The earlier visits, with the mark if it isn't in the present one.
record AreMarked (front : List ℕ → Front) (settings : LinkSettings) (addresses : List ℕ)
    (turn : ℕ) (earlier : List Visit) (before : List Exchange) (new : Exchanges) : Type 0 where
  pub visits : List Visit
  pub are : AreVisits settings addresses visits
  pub ended : views front new.ended ≡ line_of visits ++ at_station turn before
  pub left : link_left settings addresses visits turn ≡ link_left settings addresses earlier turn
  pub first : new.current ≡ None → new.ended ≡ []

mark_earlier : (front : List ℕ → Front) (settings : LinkSettings) (addresses : List ℕ)
    (turn k : ℕ) (earlier : List Visit) (before : List Exchange) (ended : List OpenExchange)
    (cur : Option OpenExchange) (link : Link) (mid now : Left)
    → AreVisits settings addresses earlier
    → views front ended ≡ line_of earlier ++ at_station turn before
    → (cur ≡ None → ended ≡ []) → IsLatest settings link turn mid now cur
    → AreMarked front settings addresses turn earlier before (given_up_from k ended cur)
mark_earlier front settings addresses turn k earlier before ended None link mid now are is first
    latest = record {
      visits = earlier;
      are = are;
      ended =
          ap (λ (xs : List OpenExchange). views front (latest_marked k xs)) (first refl)
          ∙ ap (λ (xs : List OpenExchange). views front xs) (sym (first refl)) ∙ is;
      left = refl;
      first = λ none. ap (λ (xs : List OpenExchange). latest_marked k xs) (first refl);
    }
mark_earlier front settings addresses turn k earlier before ended (Some x) link mid now are is first
    latest = go (x.station == k) refl
  where
    go : (b : Bool) → (x.station == k) ≡ b →
        AreMarked front settings addresses turn earlier before (latest_from k ended x b)
    go true here = record {
      visits = earlier;
      are = are;
      ended = is;
      left = refl;
      first = λ none. cc;
    }
    go false away =
        let other : turn ≡ k → ⊥ = λ (same : turn ≡ k). eqb-false x.station k away (latest.0
        ∙ same) in
        record {
          visits = visits_given k earlier;
          are = visits_still settings addresses k earlier are;
          ended = views_given front k ended
              ∙ ap (λ (es : List LineExchange). line_given k es) is
              ∙ given_earlier k (line_of earlier) (at_station turn before)
              (at_none turn k before (ap (λ (i : ℕ). i == k) (sym latest.0) ∙ away))
              ∙ ap (λ (es : List LineExchange). es ++ at_station turn before)
              (sym (line_visits k earlier));
          left = left_given settings addresses k turn earlier other;
          first = λ none. cc;
        }

marked_latest : (settings : LinkSettings) (link : Link) (turn k : ℕ) (mid now : Left)
    (ended : List OpenExchange) (cur : Option OpenExchange)
    → IsLatest settings link turn mid now cur
    → IsLatest settings link turn mid now (given_up_from k ended cur).current
marked_latest settings link turn k mid now ended None latest = latest
marked_latest settings link turn k mid now ended (Some x) latest = go (x.station == k)
  where
    go : (b : Bool) → IsLatest settings link turn mid now (latest_from k ended x b).current
    go true = latest
    go false = latest

marked_long : (front : List ℕ → Front) (before : List Exchange) (k : ℕ)
    (ended : List OpenExchange) (cur : Option OpenExchange)
    → length (before ++ shown front (given_up_from k ended cur).current)
    ≡ length (before ++ shown front cur)
marked_long front before k ended None = refl
marked_long front before k ended (Some x) = go (x.station == k)
  where
    go : (b : Bool) → length (before ++ shown front (latest_from k ended x b).current)
        ≡ length (before ++ (view front x).exchange ∷ [])
    go true = one_longer before _ (length before) refl
        ∙ sym (one_longer before _ (length before) refl)
    go false = refl

pub give_up_visits : (front : List ℕ → Front) (addresses : List ℕ) (p : Primary) (e : Exchanges)
    (many k : ℕ) → k < length p.stations → InVisit front addresses p e many
    → Stays front addresses p.turn (given_up k p) (given_up_at k e) many
give_up_visits front addresses p e many k within v =
    let m = mark_earlier front p.settings addresses p.turn k v.earlier v.before e.ended e.current
    _ v.mid v.now v.are v.ended v.first v.latest in
    let a = slice_index addresses p.turn in (
      record {
        earlier = m.visits;
        are = m.are;
        before = v.before;
        mid = v.mid;
        now = v.now;
        leads = subst (λ (l : Link). Leads p.settings (slice_index addresses p.turn) l
            (whole_visit p.settings l) v.before v.mid) (sym m.left) v.leads;
        ended = m.ended;
        first = m.first;
        latest = subst (λ (l : Link). IsLatest p.settings
            (link_after p.settings (slice_index addresses p.turn) l v.before) p.turn v.mid v.now
            (given_up_at k e).current) (sym m.left)
            (marked_latest p.settings _ p.turn k v.mid v.now e.ended e.current v.latest);
        fits = fits (p.turn == k) refl;
        begun = begun_given_up p k within v.begun;
        many_are = marked_long front v.before k e.ended e.current ∙ v.many_are;
      },
      refl,
    )
  where
    fits : (b : Bool) → (p.turn == k) ≡ b →
        FitsPhase p.settings (if b then None else p.outstanding) (if b then false else p.again)
        (if b then Over else p.phase)
        (station_at (slice_set p.stations k (station_given_up (station_at p.stations k)))
        p.turn).link v.now
    fits true here = over refl refl
    fits false other =
        subst (λ (s : StationState). FitsPhase p.settings p.outstanding p.again p.phase s.link
        v.now)
        (sym (get_or-set_other p.stations k p.turn (station_given_up (station_at p.stations k))
        no_station (eqb-false p.turn k other))) v.fits
