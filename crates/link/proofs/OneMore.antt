-- The sessions of the stations, call by call: one more exchange at the end.
use Rattle.std.specs.Prelude.{◌==◌}
use Rattle.std.proofs.Common.{◌≡◌, ◌≢◌, ℕ, ◌+◌, ◌<◌, slice_index, Bool, true, false, List, [], ◌∷◌}
use Rattle.std.proofs.Common.{◌++◌, length, slice_set, Option, Some, None, refl, sym, ap, subst}
use Rattle.std.proofs.Common.{◌∙◌, arith, if◌then◌else◌}
use Rattle.std.proofs.lemmas.List.{get_or-set_same, get_or-set_other}
use Rattle.std.proofs.lemmas.Bool.{eqb-true, eqb-false}
use Rattle.ft12.specs.declared.frame.Front.{Front}
use Rattle.link.specs.Answers.{Service, Class1, Class2, Command, Asked, Status, Reset, Counted}
use Rattle.link.specs.Answers.{Answer, Ready, Confirmed, Busy, Report, NoData, Unable}
use Rattle.std.specs.Io.Iter.{u64_saturate}
use Rattle.link.specs.Delivery.{pending_by, pending_after, is_reset, is_gap}
use Rattle.link.specs.Exchanges.{Exchange, OpenExchange, answer_to, with_station, view, views}
use Rattle.link.specs.Gaps.{resets_in}
use Rattle.link.specs.Turns.{StationState, SessionState, no_station, station_at, is_poll}
use Rattle.link.specs.Primary.{session_asked, session_answered}
use Rattle.link.specs.Matching.{AreSessions, session_in}
use Rattle.link.proofs.Links.{with_one}

pub nil : (xs : List Exchange) → xs ++ [] ≡ xs
nil [] = refl
nil (y ∷ ys) = ap (λ (zs : List Exchange). y ∷ zs) (nil ys)

-- ---- one exchange

-- what it makes of the session
abbrev pub step : Asked → Option Answer → SessionState → SessionState
step request None s = session_asked s request
step request (Some answer) s = session_answered (session_asked s request) request answer

abbrev pub session : (number : ℕ) → (has_gap : Bool) → SessionState
session number has_gap = record { number = number; has_gap = has_gap }

made : (n m : ℕ) (b c : Bool) → n ≡ m → b ≡ c → session n b ≡ session m c
made n m b c e f = ap (λ (k : ℕ). session k b) e ∙ ap (λ (g : Bool). session m g) f

keep : (n : ℕ) → u64_saturate (n + 0) ≡ u64_saturate n
keep n = omega arith

more : (n : ℕ) → u64_saturate (n + 1) ≡ u64_saturate (u64_saturate n + 1)
more n = omega arith

gap_is_poll : (service : Service) → is_gap (Some service) ≡ is_poll service
gap_is_poll Class1 = refl
gap_is_poll Class2 = refl
gap_is_poll (Command asdu) = refl

pub pending_push : (a : ℕ) (pending : Option Service) (xs : List Exchange) (x : Exchange) →
    pending_after a pending (xs ++ x ∷ [])
    ≡ pending_by x.request (answer_to a x) (pending_after a pending xs)
pending_push a pending [] x = refl
pending_push a pending (y ∷ ys) x = pending_push a (pending_by y.request (answer_to a y) pending) ys
    x

pub resets_push : (a : ℕ) (xs : List Exchange) (x : Exchange) →
    resets_in a (xs ++ x ∷ []) ≡ resets_in a xs + (if is_reset x.request (answer_to a x) then 1
    else 0)
resets_push a [] x = omega arith
resets_push a (y ∷ ys) x =
    let rest = resets_push a ys x in
    ap (λ (n : ℕ). (if is_reset y.request (answer_to a y) then 1 else 0) + n) rest ∙ omega arith

-- it is what the exchange makes of the count of resets and of what is pending
stepped : (request : Asked) (m : Option Answer) (n : ℕ) (pending : Option Service) →
    session (u64_saturate (n + (if is_reset request m then 1 else 0)))
    (is_gap (pending_by request m pending))
    ≡ step request m (session (u64_saturate n) (is_gap pending))
unfolding session_answered
stepped Status None n pending = made _ _ _ _ (keep n) refl
stepped Status (Some Ready) n pending = made _ _ _ _ (keep n) refl
stepped Status (Some Confirmed) n pending = made _ _ _ _ (keep n) refl
stepped Status (Some Busy) n pending = made _ _ _ _ (keep n) refl
stepped Status (Some (Report asdu)) n pending = made _ _ _ _ (keep n) refl
stepped Status (Some NoData) n pending = made _ _ _ _ (keep n) refl
stepped Status (Some Unable) n pending = made _ _ _ _ (keep n) refl
stepped Reset None n pending = made _ _ _ _ (keep n) refl
stepped Reset (Some Ready) n pending = made _ _ _ _ (keep n) refl
stepped Reset (Some Confirmed) n pending = made _ _ _ _ (more n) refl
stepped Reset (Some Busy) n pending = made _ _ _ _ (keep n) refl
stepped Reset (Some (Report asdu)) n pending = made _ _ _ _ (keep n) refl
stepped Reset (Some NoData) n pending = made _ _ _ _ (keep n) refl
stepped Reset (Some Unable) n pending = made _ _ _ _ (keep n) refl
stepped (Counted fcb service) None n pending = made _ _ _ _ (keep n) (gap_is_poll service)
stepped (Counted fcb service) (Some Ready) n pending = made _ _ _ _ (keep n) refl
stepped (Counted fcb service) (Some Confirmed) n pending = made _ _ _ _ (keep n) refl
stepped (Counted fcb service) (Some Busy) n pending = made _ _ _ _ (keep n) refl
stepped (Counted fcb service) (Some (Report asdu)) n pending = made _ _ _ _ (keep n) refl
stepped (Counted fcb service) (Some NoData) n pending = made _ _ _ _ (keep n) refl
stepped (Counted fcb service) (Some Unable) n pending = made _ _ _ _ (keep n) (gap_is_poll service)

session_push : (a : ℕ) (xs : List Exchange) (x : Exchange)
    → session_in a (xs ++ x ∷ []) ≡ step x.request (answer_to a x) (session_in a xs)
session_push a xs x =
    made _ _ _ _ (ap u64_saturate (resets_push a xs x)) (ap is_gap (pending_push a None xs x))
    ∙ stepped x.request (answer_to a x) (resets_in a xs) (pending_after a None xs)

-- ---- the exchanges of a line

-- the session of one station by these exchanges
abbrev pub session_of : (front : List ℕ → Front) → (a i : ℕ) → List OpenExchange → SessionState
session_of front a i xs = session_in a (with_station i (views front xs))

-- what the exchange at the end makes of it
abbrev pub step_at : (front : List ℕ → Front) → (a : ℕ) → OpenExchange → SessionState → SessionState
step_at front a x s = step x.request (answer_to a (view front x).exchange) s

pub one_session : (front : List ℕ → Front) (a : ℕ) (ended : List OpenExchange) (x : OpenExchange)
    (i : ℕ) →
    session_of front a i (ended ++ x ∷ [])
    ≡ (if x.station == i then step_at front a x (session_of front a i ended)
    else session_of front a i ended)
one_session front a ended x i =
    ap (λ (es : List Exchange). session_in a es) (with_one front ended x i)
    ∙ go (x.station == i)
  where
    go : (b : Bool) →
        session_in a (with_station i (views front ended) ++ (if b then (view front x).exchange ∷ []
        else []))
        ≡ (if b then step_at front a x (session_of front a i ended) else session_of front a i ended)
    go true = session_push a (with_station i (views front ended)) (view front x).exchange
    go false = ap (λ (es : List Exchange). session_in a es)
        (nil (with_station i (views front ended)))

-- an exchange that is answered alike
pub alike_sessions : (front : List ℕ → Front) (addresses : List ℕ) (ended : List OpenExchange)
    (x y : OpenExchange)
    → y.station ≡ x.station →
    y.request ≡ x.request →
    answer_to (slice_index addresses x.station) (view front y).exchange
    ≡ answer_to (slice_index addresses x.station) (view front x).exchange →
    (i : ℕ) → session_of front (slice_index addresses i) i (ended ++ y ∷ [])
    ≡ session_of front (slice_index addresses i) i (ended ++ x ∷ [])
alike_sessions front addresses ended x y station request says i =
    let a = slice_index addresses i in
    let before = session_of front a i ended in
    one_session front a ended y i
    ∙ ap (λ (j : ℕ). if j == i then step_at front a y before else before) station
    ∙ go (x.station == i) refl
    ∙ sym (one_session front a ended x i)
  where
    go : (b : Bool) → (x.station == i) ≡ b →
        (if b then step_at front (slice_index addresses i) y
        (session_of front (slice_index addresses i) i ended)
        else session_of front (slice_index addresses i) i ended)
        ≡ (if b then step_at front (slice_index addresses i) x
        (session_of front (slice_index addresses i) i ended)
        else session_of front (slice_index addresses i) i ended)
    go false e = refl
    go true e =
        let before = session_of front (slice_index addresses i) i ended in
        ap (λ (r : Asked). step r (answer_to (slice_index addresses i) (view front y).exchange)
        before) request
        ∙ ap (λ (m : Option Answer). step x.request m before)
        (subst (λ (j : ℕ). answer_to (slice_index addresses j) (view front y).exchange
        ≡ answer_to (slice_index addresses j) (view front x).exchange)
        (eqb-true x.station i e) says)

-- one more exchange, of a station that is another after it
set_session : (front : List ℕ → Front) (addresses : List ℕ) (stations : List StationState)
    (turn : ℕ)
    (ended : List OpenExchange)
    (x : OpenExchange) (s : StationState) → turn < length stations → x.station ≡ turn →
    ((i : ℕ) → i ≢ turn → session_of front (slice_index addresses i) i ended
    ≡ (station_at stations i).session) →
    step_at front (slice_index addresses turn) x (session_of front (slice_index addresses turn) turn
    ended) ≡ s.session
    →
    AreSessions front addresses (slice_set stations turn s) (ended ++ x ∷ [])
set_session front addresses stations turn ended x s fits at others this i =
    one_session front (slice_index addresses i) ended x i ∙ go (x.station == i) refl
  where
    go : (b : Bool) → (x.station == i) ≡ b →
        (if b then step_at front (slice_index addresses i) x
        (session_of front (slice_index addresses i) i ended)
        else session_of front (slice_index addresses i) i ended)
        ≡ (station_at (slice_set stations turn s) i).session
    go false e =
        let other : i ≢ turn = λ (q : i ≡ turn). eqb-false x.station i e (at ∙ sym q) in
        others i other ∙ ap (λ (t : StationState). t.session)
        (sym (get_or-set_other stations turn i s no_station other))
    go true e =
        let here : turn ≡ i = sym at ∙ eqb-true x.station i e in
        subst (λ (j : ℕ). step_at front (slice_index addresses j) x
        (session_of front (slice_index addresses j) j ended)
        ≡ (station_at (slice_set stations turn s) j).session) here
        (this
        ∙ ap (λ (t : StationState). t.session)
        (sym (get_or-set_same stations turn s no_station fits)))

-- A request goes out.
pub begun_sessions : (front : List ℕ → Front) (addresses : List ℕ) (stations : List StationState)
    (xs : List OpenExchange)
    (x : OpenExchange) (s : StationState) → x.station < length stations
    → AreSessions front addresses stations xs →
    answer_to (slice_index addresses x.station) (view front x).exchange ≡ None
    → s.session ≡ session_asked (station_at stations x.station).session x.request →
    AreSessions front addresses (slice_set stations x.station s) (xs ++ x ∷ [])
begun_sessions front addresses stations xs x s fits sessions none this =
    set_session front addresses stations x.station xs x s fits refl (λ i other. sessions i)
    (ap (λ (m : Option Answer). step x.request m (session_of front (slice_index addresses x.station)
    x.station xs)) none
    ∙ ap (λ (z : SessionState). session_asked z x.request) (sessions x.station) ∙ sym this)

-- Its exchange is answered.
pub answered_sessions : (front : List ℕ → Front) (addresses : List ℕ) (stations : List StationState)
    (turn : ℕ)
    (ended : List OpenExchange)
    (x y : OpenExchange) (s : StationState) (answer : Answer) → turn < length stations
    → AreSessions front addresses stations (ended ++ x ∷ []) →
    x.station ≡ turn → y.station ≡ turn → y.request ≡ x.request →
    answer_to (slice_index addresses turn) (view front x).exchange ≡ None →
    answer_to (slice_index addresses turn) (view front y).exchange ≡ Some answer →
    s.session ≡ session_answered (station_at stations turn).session x.request answer →
    AreSessions front addresses (slice_set stations turn s) (ended ++ y ∷ [])
answered_sessions front addresses stations turn ended x y s answer fits sessions at at' request none
    some this =
    set_session front addresses stations turn ended y s fits at' others
    (ap (λ (m : Option Answer). step y.request m before) some
    ∙ ap (λ (r : Asked). step r (Some answer) before) request
    ∙ ap (λ (z : SessionState). session_answered z x.request answer) now ∙ sym this)
  where
    before : SessionState
    before = session_of front (slice_index addresses turn) turn ended

    others : (i : ℕ) → i ≢ turn → session_of front (slice_index addresses i) i ended
        ≡ (station_at stations i).session
    others i other =
        sym (one_session front (slice_index addresses i) ended x i ∙ go (x.station == i) refl)
        ∙ sessions i
      where
        go : (b : Bool) → (x.station == i) ≡ b →
            (if b then step_at front (slice_index addresses i) x
            (session_of front (slice_index addresses i) i ended)
            else session_of front (slice_index addresses i) i ended)
            ≡ session_of front (slice_index addresses i) i ended
        go false e = refl
        go true e = absurd (other (sym (eqb-true x.station i e) ∙ at))

    -- what the request made of it
    now : session_asked before x.request ≡ (station_at stations turn).session
    now =
        sym (one_session front (slice_index addresses turn) ended x turn
        ∙ go (x.station == turn) refl) ∙ sessions turn
      where
        go : (b : Bool) → (x.station == turn) ≡ b →
            (if b then step_at front (slice_index addresses turn) x before else before)
            ≡ session_asked before x.request
        go true e = ap (λ (m : Option Answer). step x.request m before) none
        go false e = absurd (eqb-false x.station turn e at)
