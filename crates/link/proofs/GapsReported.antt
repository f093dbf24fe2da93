-- The gaps of a line's exchanges, call by call.
use Rattle.std.specs.Prelude.{◌==◌}
use Rattle.std.proofs.Common.{◌≡◌, ℕ, slice_index, Bool, true, false, List, [], ◌∷◌, ◌++◌, Option}
use Rattle.std.proofs.Common.{Some, None, option_and_then, refl, sym, ap, subst, ◌∙◌}
use Rattle.std.proofs.Common.{◌||◌, append_assoc, if◌then◌else◌}
use Rattle.std.proofs.lemmas.Bool.{eqb-true, eqb-false}
use Rattle.ft12.specs.declared.frame.Front.{Front}
use Rattle.ft12.specs.declared.frame.Front.TheVariants.{Whole, More, Never}
use Rattle.link.specs.Answers.{Asked, Status, Reset, Counted, Answer, Ready, Confirmed, Busy}
use Rattle.link.specs.Answers.{Report, NoData, Unable, answer_of}
use Rattle.link.specs.Delivery.{is_reset}
use Rattle.link.specs.Exchanges.{Exchange, OpenExchange, Exchanges, Sending, answer_to, as_list}
use Rattle.link.specs.Exchanges.{whole_of, view, views, with_station, received_octets}
use Rattle.link.specs.Exchanges.{received_current}
use Rattle.link.specs.Exchanges.{timed_current, begun_by}
use Rattle.link.specs.Gaps.{gap_in, as_numbers, gap_by, gaps_from, gaps_in, gaps_at}
use Rattle.link.specs.Procedure.{LinkSettings}
use Rattle.link.specs.Turns.{SessionState}
use Rattle.link.specs.Primary.{Outstanding, Primary, outcome_of, outcome_at, outcome_after}
use Rattle.link.specs.Primary.{outcome_from, received_outcome, gap_of, turn_gap, started, with_gap}
use Rattle.link.specs.Matching.{IsReceived, IsCurrent, MatchesBy, gap_in_outcome}
use Rattle.link.proofs.Links.{with_one}
use Rattle.link.proofs.Matching.{said_now, grown, received_open, received_frozen, neither}
use Rattle.link.proofs.Matching.{over_said, unreceived}
use Rattle.link.proofs.OneMore.{nil, step, session_of, one_session}

none : (xs : List ℕ) → xs ++ [] ≡ xs
none [] = refl
none (x ∷ xs) = ap (λ (ys : List ℕ). x ∷ ys) (none xs)

-- ---- one more exchange

from_push : (a : ℕ) (before xs : List Exchange) (x : Exchange)
    → gaps_from a before (xs ++ x ∷ []) ≡ gaps_from a before xs ++ gap_by a (before ++ xs) x
from_push a before [] x = none (gap_by a before x)
    ∙ ap (λ (ys : List Exchange). gap_by a ys x) (sym (nil before))
from_push a before (y ∷ ys) x =
    ap (λ (l : List ℕ). gap_by a before y ++ l) (from_push a (before ++ y ∷ []) ys x)
    ∙ ap (λ (es : List Exchange). gap_by a before y
    ++ (gaps_from a (before ++ y ∷ []) ys ++ gap_by a es x))
    (append_assoc before (y ∷ []) ys)
    ∙ sym (append_assoc (gap_by a before y) (gaps_from a (before ++ y ∷ []) ys)
    (gap_by a (before ++ y ∷ ys) x))

-- the gaps of a station by these exchanges of its line
abbrev pub gaps_of : (front : List ℕ → Front) → (a i : ℕ) → List OpenExchange → List ℕ
gaps_of front a i xs = gaps_in a (with_station i (views front xs))

-- the gap that the latest one ends
abbrev pub ends : (front : List ℕ → Front) → (a i : ℕ) → List OpenExchange → (request : Asked)
    → Option Answer → List ℕ
ends front a i ended request m = if is_reset request m then as_numbers
    (gap_in a (with_station i (views front ended))) else []

one_gap : (front : List ℕ → Front) (a i : ℕ) (ended : List OpenExchange) (x : OpenExchange) →
    gaps_of front a i (ended ++ x ∷ [])
    ≡ gaps_of front a i ended
    ++ (if x.station == i then ends front a i ended x.request (answer_to a (view front x).exchange)
    else [])
one_gap front a i ended x = ap (λ (es : List Exchange). gaps_in a es) (with_one front ended x i)
    ∙ go (x.station == i)
  where
    go : (b : Bool) →
        gaps_in a (with_station i (views front ended) ++ (if b then (view front x).exchange ∷ []
        else []))
        ≡ gaps_of front a i ended
        ++ (if b then ends front a i ended x.request (answer_to a (view front x).exchange) else [])
    go true = from_push a [] (with_station i (views front ended)) (view front x).exchange
    go false = ap (λ (es : List Exchange). gaps_in a es) (nil (with_station i (views front ended)))
        ∙ sym (none (gaps_of front a i ended))

-- what isn't answered is no confirmed reset
none_reset : (request : Asked) → is_reset request None ≡ false
none_reset Status = refl
none_reset Reset = refl
none_reset (Counted fcb service) = refl

-- an exchange that isn't answered
quiet_gaps : (front : List ℕ → Front) (addresses : List ℕ) (ended : List OpenExchange)
    (x : OpenExchange) →
    answer_to (slice_index addresses x.station) (view front x).exchange ≡ None → (i : ℕ) →
    gaps_of front (slice_index addresses i) i (ended ++ x ∷ [])
    ≡ gaps_of front (slice_index addresses i) i ended
quiet_gaps front addresses ended x unanswered i =
    one_gap front (slice_index addresses i) i ended x
    ∙ ap (λ (l : List ℕ). gaps_of front (slice_index addresses i) i ended ++ l)
    (go (x.station == i) refl)
    ∙ none (gaps_of front (slice_index addresses i) i ended)
  where
    a : ℕ
    a = slice_index addresses i

    go : (b : Bool) → (x.station == i) ≡ b →
        (if b then ends front (slice_index addresses i) i ended x.request
        (answer_to (slice_index addresses i) (view front x).exchange) else []) ≡ []
    go false e = refl
    go true e =
        ap (λ (m : Option Answer). ends front a i ended x.request m)
        (subst (λ (j : ℕ). answer_to (slice_index addresses j) (view front x).exchange ≡ None)
        (eqb-true x.station i e) unanswered)
        ∙ ap (λ (b : Bool). if b then as_numbers (gap_in a (with_station i (views front ended)))
        else [])
        (none_reset x.request)

-- an exchange that is answered alike
alike_gaps : (front : List ℕ → Front) (addresses : List ℕ) (ended : List OpenExchange)
    (x y : OpenExchange)
    → y.station ≡ x.station →
    y.request ≡ x.request →
    answer_to (slice_index addresses x.station) (view front y).exchange
    ≡ answer_to (slice_index addresses x.station) (view front x).exchange →
    (i : ℕ) → gaps_of front (slice_index addresses i) i (ended ++ y ∷ [])
    ≡ gaps_of front (slice_index addresses i) i (ended ++ x ∷ [])
alike_gaps front addresses ended x y station request says i =
    one_gap front (slice_index addresses i) i ended y
    ∙ ap (λ (j : ℕ). gaps_of front (slice_index addresses i) i ended
    ++ (if j == i then ends front (slice_index addresses i) i ended y.request
    (answer_to (slice_index addresses i) (view front y).exchange) else [])) station
    ∙ ap (λ (l : List ℕ). gaps_of front (slice_index addresses i) i ended ++ l)
    (go (x.station == i) refl)
    ∙ sym (one_gap front (slice_index addresses i) i ended x)
  where
    go : (b : Bool) → (x.station == i) ≡ b →
        (if b then ends front (slice_index addresses i) i ended y.request
        (answer_to (slice_index addresses i) (view front y).exchange) else [])
        ≡ (if b then ends front (slice_index addresses i) i ended x.request
        (answer_to (slice_index addresses i) (view front x).exchange) else [])
    go false e = refl
    go true e =
        ap (λ (r : Asked). ends front (slice_index addresses i) i ended r
        (answer_to (slice_index addresses i) (view front y).exchange)) request
        ∙ ap (λ (m : Option Answer). ends front (slice_index addresses i) i ended x.request m)
        (subst (λ (j : ℕ). answer_to (slice_index addresses j) (view front y).exchange
        ≡ answer_to (slice_index addresses j) (view front x).exchange)
        (eqb-true x.station i e) says)

-- ---- `due` and `next`

same_answer : (front : List ℕ → Front) (a i : ℕ) (ended : List OpenExchange) (x y : OpenExchange)
    → y.station ≡ x.station → y.request ≡ x.request →
    y.octets ≡ x.octets → gaps_of front a i (ended ++ y ∷ []) ≡ gaps_of front a i (ended ++ x ∷ [])
same_answer front a i ended x y station request octets =
    one_gap front a i ended y
    ∙ ap (λ (j : ℕ). gaps_of front a i ended
    ++ (if j == i then ends front a i ended y.request
    (option_and_then (answer_of a y.request) (whole_of (front y.octets))) else [])) station
    ∙ ap (λ (r : Asked). gaps_of front a i ended
    ++ (if x.station == i then ends front a i ended r
    (option_and_then (answer_of a r) (whole_of (front y.octets))) else [])) request
    ∙ ap (λ (o : List ℕ). gaps_of front a i ended
    ++ (if x.station == i then ends front a i ended x.request
    (option_and_then (answer_of a x.request) (whole_of (front o))) else [])) octets
    ∙ sym (one_gap front a i ended x)

pub due_gaps : (front : List ℕ → Front) (addresses : List ℕ) (answer_ms at : ℕ) (e : Exchanges)
    (i : ℕ) →
    gaps_at front addresses i
    (record { ended = e.ended; current = timed_current answer_ms at e.current })
    ≡ gaps_at front addresses i e
due_gaps front addresses answer_ms at e i = go e.current
  where
    go : (c : Option OpenExchange) →
        gaps_of front (slice_index addresses i) i
        (e.ended ++ as_list (timed_current answer_ms at c))
        ≡ gaps_of front (slice_index addresses i) i (e.ended ++ as_list c)
    go None = refl
    go (Some x) = same_answer front (slice_index addresses i) i e.ended x _ refl refl refl

pub next_gaps : (front : List ℕ → Front) (addresses : List ℕ) (now : ℕ) (s : Option Sending)
    (e : Exchanges) (i : ℕ)
    → front [] ≡ More →
    gaps_at front addresses i (begun_by now s e) ≡ gaps_at front addresses i e
next_gaps front addresses now None e i nothing = refl
next_gaps front addresses now (Some s) e i nothing =
    quiet_gaps front addresses (e.ended ++ as_list e.current)
    (record {
      station = s.station;
      request = s.request;
      since = now;
      octets = [];
      closed = false;
      given_up = false;
    })
    (ap (λ (f : Front). option_and_then (answer_of (slice_index addresses s.station) s.request)
    (whole_of f)) nothing) i

-- ---- `octets`

nothing : (b : Bool) → ◌≡◌ {A = List ℕ} [] (if b then [] else [])
nothing true = refl
nothing false = refl

start_matches : (station i : ℕ) (gap : Option ℕ) → gap_in_outcome i (started station gap)
    ≡ (if station == i then as_numbers gap else [])
start_matches station i None = nothing (station == i)
start_matches station i (Some session) = refl

-- the gap that is reported of an answer, if it is an answer to the request
reported_gap : (station i : ℕ) (gap : Option ℕ) (request : Asked) (m : Option Answer) →
    gap_in_outcome i (with_gap gap (outcome_of station request m))
    ≡ (if station == i then (if is_reset request m then as_numbers gap else []) else [])
reported_gap station i gap Status None = nothing (station == i)
reported_gap station i gap Status (Some Ready) = nothing (station == i)
reported_gap station i gap Status (Some Confirmed) = nothing (station == i)
reported_gap station i gap Status (Some Busy) = nothing (station == i)
reported_gap station i gap Status (Some (Report asdu)) = nothing (station == i)
reported_gap station i gap Status (Some NoData) = nothing (station == i)
reported_gap station i gap Status (Some Unable) = nothing (station == i)
reported_gap station i gap Reset None = nothing (station == i)
reported_gap station i gap Reset (Some Ready) = nothing (station == i)
reported_gap station i gap Reset (Some Confirmed) = start_matches station i gap
reported_gap station i gap Reset (Some Busy) = nothing (station == i)
reported_gap station i gap Reset (Some (Report asdu)) = nothing (station == i)
reported_gap station i gap Reset (Some NoData) = nothing (station == i)
reported_gap station i gap Reset (Some Unable) = nothing (station == i)
reported_gap station i gap (Counted fcb service) None = nothing (station == i)
reported_gap station i gap (Counted fcb service) (Some Ready) = nothing (station == i)
reported_gap station i gap (Counted fcb service) (Some Confirmed) = nothing (station == i)
reported_gap station i gap (Counted fcb service) (Some Busy) = nothing (station == i)
reported_gap station i gap (Counted fcb service) (Some (Report asdu)) = nothing (station == i)
reported_gap station i gap (Counted fcb service) (Some NoData) = nothing (station == i)
reported_gap station i gap (Counted fcb service) (Some Unable) = nothing (station == i)

-- While a reset is outstanding the session is the one before it.
reset_gap : (front : List ℕ → Front) (a : ℕ) (ended : List OpenExchange) (x : OpenExchange)
    (m : Option Answer) →
    answer_to a (view front x).exchange ≡ None →
    (if is_reset x.request m
    then as_numbers (gap_in a (with_station x.station (views front (ended ++ x ∷ [])))) else
    [])
    ≡ ends front a x.station ended x.request m
reset_gap front a ended x m unanswered = go x.request refl m
  where
    by_none : session_of front a x.station (ended ++ x ∷ [])
        ≡ step x.request None (session_of front a x.station ended)
    by_none = one_session front a ended x x.station ∙ here (x.station == x.station) refl
      where
        here : (b : Bool) → (x.station == x.station) ≡ b →
            (if b then step x.request (answer_to a (view front x).exchange)
            (session_of front a x.station ended) else session_of front a x.station ended)
            ≡ step x.request None (session_of front a x.station ended)
        here true e =
            ap (λ (m : Option Answer). step x.request m (session_of front a x.station ended))
            unanswered
        here false e = absurd (eqb-false x.station x.station e refl)

    go : (r : Asked) → x.request ≡ r → (m : Option Answer) →
        (if is_reset r m
        then as_numbers (gap_in a (with_station x.station (views front (ended ++ x ∷ [])))) else [])
        ≡ ends front a x.station ended r m
    go Status e m = refl
    go (Counted fcb service) e m = refl
    go Reset e m =
        ap (λ (s : SessionState). if is_reset Reset m then as_numbers (gap_of s) else [])
        (by_none ∙ ap (λ (r : Asked). step r None (session_of front a x.station ended)) e)

pub receive_gaps : (front : List ℕ → Front) (settings : LinkSettings) (addresses : List ℕ)
    (p : Primary)
    (ended : List OpenExchange) (cur : Option OpenExchange) (octets : List ℕ) (i : ℕ) →
    MatchesBy front settings addresses p (record { ended = ended; current = cur }) →
    gaps_of front (slice_index addresses i) i (ended ++ as_list (received_current octets cur))
    ≡ gaps_of front (slice_index addresses i) i (ended ++ as_list cur)
    ++ gap_in_outcome i (received_outcome front p octets)
receive_gaps front settings addresses p ended cur octets i t = go p.outstanding cur t t.current
  where
    a : ℕ
    a = slice_index addresses i

    go : (o : Option Outstanding) (c : Option OpenExchange)
        → MatchesBy front settings addresses p (record { ended = ended; current = c }) →
        IsCurrent front addresses p.turn o c →
        gaps_of front (slice_index addresses i) i (ended ++ as_list (received_current octets c))
        ≡ gaps_of front (slice_index addresses i) i (ended ++ as_list c)
        ++ gap_in_outcome i (outcome_from front p o octets)
    go None None t so = sym (none (gaps_of front (slice_index addresses i) i (ended ++ [])))
    go (Some o) None t so = absurd so
    go None (Some x) t over = by_frozen (x.closed || x.given_up) refl
        ∙ sym (none (gaps_of front (slice_index addresses i) i (ended ++ x ∷ [])))
      where
        by_frozen : (b : Bool) → (x.closed || x.given_up) ≡ b →
            gaps_of front (slice_index addresses i) i (ended ++ received_octets octets x ∷ [])
            ≡ gaps_of front (slice_index addresses i) i (ended ++ x ∷ [])
        by_frozen true e =
            ap (λ (z : OpenExchange). gaps_of front (slice_index addresses i) i (ended ++ z ∷ []))
            (received_frozen octets x e)
        by_frozen false e =
            let both = neither x.closed x.given_up e in
            let said = over_said front (slice_index addresses x.station) x over e in
            ap (λ (z : OpenExchange). gaps_of front (slice_index addresses i) i (ended ++ z ∷ []))
            (received_open octets x both.0 both.1)
            ∙ alike_gaps front addresses ended x (grown x octets) refl refl
            (said.1 octets
            ∙ sym (said_now front (slice_index addresses x.station) x (Some said.0) said.1)) i
    go (Some q) (Some x) t w =
        ap (λ (z : OpenExchange). gaps_of front (slice_index addresses i) i (ended ++ z ∷ []))
        (received_open octets x w.waits w.stands)
        ∙ one_gap front (slice_index addresses i) i ended (grown x octets)
        ∙ ap (λ (l : List ℕ). gaps_of front (slice_index addresses i) i ended ++ l)
        (sym (by_received q.arrived w.arrived ∙ here (x.station == i) refl))
        ∙ ap (λ (l : List ℕ). l ++ gap_in_outcome i (outcome_after front p q q.arrived octets))
        (sym (quiet_gaps front addresses ended x unanswered i))
      where
        unanswered : answer_to (slice_index addresses x.station) (view front x).exchange ≡ None
        unanswered =
            ap (λ (j : ℕ). answer_to (slice_index addresses j) (view front x).exchange) w.station
            ∙ unreceived front (slice_index addresses p.turn) x q.arrived w.arrived

        -- what comes of the exchange
        says : Option Answer
        says = option_and_then (answer_of (slice_index addresses x.station) x.request)
            (whole_of (front (x.octets ++ octets)))

        -- by the station whose turn it is
        at_turn : (f : Front) → option_and_then (answer_of (slice_index addresses p.turn) x.request)
            (whole_of f)
            ≡ option_and_then (answer_of (slice_index addresses x.station) x.request) (whole_of f)
        at_turn f =
            ap (λ (j : ℕ). option_and_then (answer_of (slice_index addresses j) x.request)
            (whole_of f))
            (sym w.station)

        gap : turn_gap p ≡ gap_in (slice_index addresses x.station)
            (with_station x.station (views front (ended ++ x ∷ [])))
        gap =
            ap gap_of (sym (t.sessions p.turn))
            ∙ ap (λ (j : ℕ). gap_in (slice_index addresses j)
            (with_station j (views front (ended ++ x ∷ []))))
            (sym w.station)

        matches : (m : Option Answer)
            → gap_in_outcome i (with_gap (turn_gap p) (outcome_of p.turn x.request m))
            ≡ (if x.station == i then ends front (slice_index addresses x.station) x.station ended
            x.request m else [])
        matches m =
            reported_gap p.turn i (turn_gap p) x.request m
            ∙ ap (λ (j : ℕ). if j == i then (if is_reset x.request m then as_numbers (turn_gap p)
            else []) else [])
            (sym w.station)
            ∙ ap (λ (g : Option ℕ). if x.station == i
            then (if is_reset x.request m then as_numbers g else []) else [])
            gap
            ∙ ap (λ (l : List ℕ). if x.station == i then l else [])
            (reset_gap front (slice_index addresses x.station) ended x m unanswered)

        by_front : (f : Front) →
            gap_in_outcome i (outcome_at p q (whole_of f))
            ≡ gap_in_outcome i (with_gap (turn_gap p)
            (outcome_of p.turn x.request
            (option_and_then (answer_of (slice_index addresses p.turn) x.request)
            (whole_of f))))
        by_front More = refl
        by_front (Never place why) = refl
        by_front (Whole frame n) =
            ap (λ (b : ℕ). gap_in_outcome i (with_gap (turn_gap p)
            (outcome_of p.turn q.request (answer_of b q.request frame)))) (t.address p.turn)
            ∙ ap (λ (r : Asked). gap_in_outcome i (with_gap (turn_gap p)
            (outcome_of p.turn r (answer_of (slice_index addresses p.turn) r frame))))
            (sym w.request)

        by_received : (h : Option (List ℕ)) → IsReceived front (slice_index addresses p.turn) x h →
            gap_in_outcome i (outcome_after front p q h octets)
            ≡ (if x.station == i then ends front (slice_index addresses x.station) x.station ended
            x.request says else
            [])
        by_received None said =
            matches None
            ∙ ap (λ (m : Option Answer). if x.station == i then ends front
            (slice_index addresses x.station) x.station ended x.request m else [])
            (sym (said octets) ∙ at_turn (front (x.octets ++ octets)))
        by_received (Some before) so =
            ap (λ (b : List ℕ). gap_in_outcome i (outcome_at p q (whole_of (front (b ++ octets)))))
            so.0
            ∙ by_front (front (x.octets ++ octets))
            ∙ ap (λ (m : Option Answer). gap_in_outcome i
            (with_gap (turn_gap p) (outcome_of p.turn x.request m)))
            (at_turn (front (x.octets ++ octets)))
            ∙ matches says

        here : (b : Bool) → (x.station == i) ≡ b →
            (if b then ends front (slice_index addresses x.station) x.station ended x.request says
            else [])
            ≡ (if b then ends front (slice_index addresses i) i ended x.request
            (answer_to (slice_index addresses i) (view front (grown x octets)).exchange) else [])
        here false e = refl
        here true e =
            ap (λ (j : ℕ). ends front (slice_index addresses j) j ended x.request
            (option_and_then (answer_of (slice_index addresses j) x.request)
            (whole_of (front (x.octets ++ octets)))))
            (eqb-true x.station i e)
