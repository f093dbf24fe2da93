-- The reports of a line's exchanges, call by call.
use Rattle.std.proofs.Common.{◌≡◌, ℕ, slice_index, Bool, true, false, List, [], ◌∷◌, ◌++◌, Option}
use Rattle.std.proofs.Common.{Some, None, option_and_then, refl, sym, ap, ◌∙◌}
use Rattle.std.proofs.Common.{◌||◌, append_assoc}
use Rattle.ft12.specs.declared.frame.Front.{Front}
use Rattle.ft12.specs.declared.frame.Front.TheVariants.{Whole, More, Never}
use Rattle.link.specs.Answers.{Asked, Status, Reset, Counted, Answer, Ready, Confirmed, Busy}
use Rattle.link.specs.Answers.{Report, NoData, Unable, answer_of}
use Rattle.link.specs.Exchanges.{LineExchange, OpenExchange, Exchanges, Sending, answer_to, as_list}
use Rattle.link.specs.Exchanges.{whole_of, view, views, received_octets, received_current}
use Rattle.link.specs.Exchanges.{timed_current}
use Rattle.link.specs.Exchanges.{begun_by, report_by, reports_of, reports_of_exchanges}
use Rattle.link.specs.Procedure.{LinkSettings}
use Rattle.link.specs.Turns.{station_at}
use Rattle.link.specs.Primary.{Outstanding, Primary, answer_at, outcome_of, outcome_at}
use Rattle.link.specs.Primary.{outcome_after, outcome_from, received_outcome, Outcome, turn_gap}
use Rattle.link.specs.Primary.{started, with_gap}
use Rattle.link.specs.declared.outcome.Outcome.TheVariants as outcome
use Rattle.link.specs.Matching.{IsReceived, IsCurrent, MatchesBy, report_in}
use Rattle.link.proofs.Links.{views-append}
use Rattle.link.proofs.Matching.{said_now, grown, received_open, received_frozen, neither}
use Rattle.link.proofs.Matching.{over_said}

nil : (xs : List (ℕ × List ℕ)) → xs ++ [] ≡ xs
nil [] = refl
nil (x ∷ xs) = ap (λ (ys : List (ℕ × List ℕ)). x ∷ ys) (nil xs)

reports_of-append : (address : ℕ → ℕ) (es fs : List LineExchange)
    → reports_of address (es ++ fs) ≡ reports_of address es ++ reports_of address fs
reports_of-append address [] fs = refl
reports_of-append address (e ∷ es) fs =
    ap (λ (rs : List (ℕ × List ℕ)). report_by e.station (answer_to (address e.station) e.exchange)
    ++ rs)
    (reports_of-append address es fs)
    ∙ sym (append_assoc (report_by e.station (answer_to (address e.station) e.exchange))
    (reports_of address es)
    (reports_of address fs))

-- what the latest exchange says
abbrev answer_in : (front : List ℕ → Front) → (address : ℕ → ℕ) → OpenExchange → Option Answer
answer_in front address x = answer_to (address x.station) (view front x).exchange

reports-push : (front : List ℕ → Front) (address : ℕ → ℕ) (xs : List OpenExchange)
    (x : OpenExchange) →
    reports_of address (views front (xs ++ x ∷ [])) ≡ reports_of address (views front xs)
    ++ report_by x.station (answer_in front address x)
reports-push front address xs x =
    ap (λ (es : List LineExchange). reports_of address es) (views-append front xs (x ∷ []))
    ∙ reports_of-append address (views front xs) (views front (x ∷ []))
    ∙ ap (λ (rs : List (ℕ × List ℕ)). reports_of address (views front xs) ++ rs)
    (nil (report_by x.station (answer_in front address x)))

-- an outcome bears the report of the answer
logged_report : (station : ℕ) (request : Asked) (m : Option Answer)
    → report_in (outcome_of station request m) ≡ report_by station m
logged_report station request None = refl
logged_report station Status (Some Ready) = refl
logged_report station Status (Some Confirmed) = refl
logged_report station Status (Some Busy) = refl
logged_report station Status (Some (Report asdu)) = refl
logged_report station Status (Some NoData) = refl
logged_report station Status (Some Unable) = refl
logged_report station Reset (Some Ready) = refl
logged_report station Reset (Some Confirmed) = refl
logged_report station Reset (Some Busy) = refl
logged_report station Reset (Some (Report asdu)) = refl
logged_report station Reset (Some NoData) = refl
logged_report station Reset (Some Unable) = refl
logged_report station (Counted fcb service) (Some Ready) = refl
logged_report station (Counted fcb service) (Some Confirmed) = refl
logged_report station (Counted fcb service) (Some Busy) = refl
logged_report station (Counted fcb service) (Some (Report asdu)) = refl
logged_report station (Counted fcb service) (Some NoData) = refl
logged_report station (Counted fcb service) (Some Unable) = refl

-- A gap bears none.
start_bears : (station : ℕ) (gap : Option ℕ) → report_in (started station gap) ≡ []
start_bears station None = refl
start_bears station (Some session) = refl

gap_bears : (gap : Option ℕ) (outcome_for : Outcome) → report_in (with_gap gap outcome_for)
    ≡ report_in outcome_for
gap_bears gap (outcome.Started station) = start_bears station gap
gap_bears gap (outcome.StartedGap station session) = refl
gap_bears gap outcome.None = refl
gap_bears gap (outcome.Report station asdu) = refl
gap_bears gap (outcome.Empty station) = refl
gap_bears gap (outcome.Accepted station) = refl
gap_bears gap (outcome.Busy station) = refl
gap_bears gap (outcome.Down station) = refl

-- the latest exchange says more
said_more : (front : List ℕ → Front) (address : ℕ → ℕ) (ended : List OpenExchange)
    (x y : OpenExchange)
    (outcome_for : List (ℕ × List ℕ)) → y.station ≡ x.station →
    report_by y.station (answer_in front address y)
    ≡ report_by x.station (answer_in front address x) ++ outcome_for →
    reports_of address (views front (ended ++ y ∷ []))
    ≡ reports_of address (views front (ended ++ x ∷ [])) ++ outcome_for
said_more front address ended x y outcome_for station more =
    reports-push front address ended y
    ∙ ap (λ (rs : List (ℕ × List ℕ)). reports_of address (views front ended) ++ rs) more
    ∙ sym (append_assoc (reports_of address (views front ended))
    (report_by x.station (answer_in front address x)) outcome_for)
    ∙ ap (λ (rs : List (ℕ × List ℕ)). rs ++ outcome_for) (sym (reports-push front address ended x))

pub due_reports : (front : List ℕ → Front) (address : ℕ → ℕ) (answer_ms at : ℕ) (e : Exchanges) →
    reports_of_exchanges front address
    (record { ended = e.ended; current = timed_current answer_ms at e.current })
    ≡ reports_of_exchanges front address e
due_reports front address answer_ms at e = go e.current
  where
    go : (c : Option OpenExchange) →
        reports_of address (views front (e.ended ++ as_list (timed_current answer_ms at c)))
        ≡ reports_of address (views front (e.ended ++ as_list c))
    go None = refl
    go (Some x) = reports-push front address e.ended _ ∙ sym (reports-push front address e.ended x)

pub next_reports : (front : List ℕ → Front) (address : ℕ → ℕ) (now : ℕ) (s : Option Sending)
    (e : Exchanges)
    → front [] ≡ More →
    reports_of_exchanges front address (begun_by now s e) ≡ reports_of_exchanges front address e
next_reports front address now None e nothing = refl
next_reports front address now (Some s) e nothing =
    reports-push front address (e.ended ++ as_list e.current) _
    ∙ ap (λ (f : Front). reports_of address (views front (e.ended ++ as_list e.current))
    ++ report_by s.station (option_and_then (answer_of (address s.station) s.request) (whole_of f)))
    nothing
    ∙ nil (reports_of address (views front (e.ended ++ as_list e.current)))

pub receive_reports : (front : List ℕ → Front) (settings : LinkSettings) (addresses : List ℕ)
    (p : Primary)
    (ended : List OpenExchange) (cur : Option OpenExchange) (octets : List ℕ) →
    MatchesBy front settings addresses p (record { ended = ended; current = cur }) →
    reports_of (λ i. slice_index addresses i)
    (views front (ended ++ as_list (received_current octets cur)))
    ≡ reports_of (λ i. slice_index addresses i) (views front (ended ++ as_list cur))
    ++ report_in (received_outcome front p octets)
receive_reports front settings addresses p ended cur octets t = go p.outstanding cur t.current
  where
    address : ℕ → ℕ
    address = λ i. slice_index addresses i

    go : (o : Option Outstanding) (c : Option OpenExchange) → IsCurrent front addresses p.turn o c →
        reports_of (λ i. slice_index addresses i)
        (views front (ended ++ as_list (received_current octets c)))
        ≡ reports_of (λ i. slice_index addresses i) (views front (ended ++ as_list c))
        ++ report_in (outcome_from front p o octets)
    go None None so =
        sym (nil (reports_of (λ i. slice_index addresses i) (views front (ended ++ []))))
    go (Some o) None so = absurd so
    go None (Some x) over = by_frozen (x.closed || x.given_up) refl
        ∙ sym (nil (reports_of (λ i. slice_index addresses i) (views front (ended ++ x ∷ []))))
      where
        by_frozen : (b : Bool) → (x.closed || x.given_up) ≡ b →
            reports_of (λ i. slice_index addresses i)
            (views front (ended ++ received_octets octets x ∷ []))
            ≡ reports_of (λ i. slice_index addresses i) (views front (ended ++ x ∷ []))
        by_frozen true e =
            ap (λ (z : OpenExchange). reports_of (λ i. slice_index addresses i)
            (views front (ended ++ z ∷ [])))
            (received_frozen octets x e)
        by_frozen false e =
            let both = neither x.closed x.given_up e in
            let a = over_said front (slice_index addresses x.station) x over e in
            ap (λ (z : OpenExchange). reports_of (λ i. slice_index addresses i)
            (views front (ended ++ z ∷ [])))
            (received_open octets x both.0 both.1)
            ∙ reports-push front (λ i. slice_index addresses i) ended (grown x octets)
            ∙ ap (λ (m : Option Answer). reports_of (λ i. slice_index addresses i)
            (views front ended)
            ++ report_by x.station m)
            (a.1 octets ∙ sym (said_now front (slice_index addresses x.station) x (Some a.0) a.1))
            ∙ sym (reports-push front (λ i. slice_index addresses i) ended x)
    go (Some q) (Some x) w =
        ap (λ (z : OpenExchange). reports_of (λ i. slice_index addresses i)
        (views front (ended ++ z ∷ [])))
        (received_open octets x w.waits w.stands)
        ∙ said_more front (λ i. slice_index addresses i) ended x (grown x octets)
        (report_in (outcome_after front p q q.arrived octets)) refl
        (by_received q.arrived w.arrived)
      where
        -- by the station whose turn it is
        here : (f : Front) → option_and_then (answer_of (slice_index addresses x.station) x.request)
            (whole_of f)
            ≡ option_and_then (answer_of (slice_index addresses p.turn) x.request) (whole_of f)
        here f =
            ap (λ (i : ℕ). option_and_then (answer_of (slice_index addresses i) x.request)
            (whole_of f)) w.station

        before : (f : Front) → front x.octets ≡ f → option_and_then
            (answer_of (slice_index addresses p.turn) x.request) (whole_of f) ≡ None →
            report_by x.station (answer_in front (λ i. slice_index addresses i) x) ≡ []
        before f e none =
            ap (λ (g : Front). report_by x.station (option_and_then
            (answer_of (slice_index addresses x.station) x.request) (whole_of g))) e
            ∙ ap (λ (m : Option Answer). report_by x.station m) (here f ∙ none)

        by_front : (f : Front) → front (x.octets ++ octets) ≡ f →
            report_by x.station (answer_in front (λ i. slice_index addresses i) (grown x octets))
            ≡ report_in (outcome_at p q (whole_of f))
        by_front More e =
            ap (λ (g : Front). report_by x.station (option_and_then
            (answer_of (slice_index addresses x.station) x.request) (whole_of g))) e
        by_front (Never place why) e =
            ap (λ (g : Front). report_by x.station (option_and_then
            (answer_of (slice_index addresses x.station) x.request) (whole_of g))) e
        by_front (Whole frame n) e =
            ap (λ (g : Front). report_by x.station (option_and_then
            (answer_of (slice_index addresses x.station) x.request) (whole_of g))) e
            ∙ ap (λ (m : Option Answer). report_by x.station m)
            (here (Whole frame n)
            ∙ ap (λ (a : ℕ). answer_of a x.request frame) (sym (t.address p.turn))
            ∙ ap (λ (r : Asked). answer_of (station_at p.stations p.turn).address r frame)
            w.request)
            ∙ ap (λ (i : ℕ). report_by i (answer_at p q frame)) w.station
            ∙ sym (gap_bears (turn_gap p) (outcome_of p.turn q.request (answer_at p q frame))
            ∙ logged_report p.turn q.request (answer_at p q frame))

        by_received : (h : Option (List ℕ)) → IsReceived front (slice_index addresses p.turn) x h →
            report_by x.station (answer_in front (λ i. slice_index addresses i) (grown x octets))
            ≡ report_by x.station (answer_in front (λ i. slice_index addresses i) x)
            ++ report_in (outcome_after front p q h octets)
        by_received None said =
            ap (λ (m : Option Answer). report_by x.station m) (here (front (x.octets ++ octets))
            ∙ said octets)
            ∙ ap (λ (rs : List (ℕ × List ℕ)). rs ++ [])
            (sym (before (front x.octets) refl (said_now front (slice_index addresses p.turn) x None
            said)))
        by_received (Some octets') so =
            by_front (front (x.octets ++ octets)) refl
            ∙ ap (λ (b : List ℕ). report_in (outcome_at p q (whole_of (front (b ++ octets)))))
            (sym so.0)
            ∙ ap (λ (rs : List (ℕ × List ℕ)). rs
            ++ report_in (outcome_at p q (whole_of (front (octets' ++ octets)))))
            (sym (before More so.1 refl))
