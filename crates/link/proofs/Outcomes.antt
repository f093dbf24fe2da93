-- What the caller learns is what the exchange shows.
use Rattle.std.proofs.Common.{◌≡◌, ℕ, suc, ◌||◌, ◌&&◌, not, nat_le, nat_lt, ◌+◌, slice_index, Bool}
use Rattle.std.proofs.Common.{true, false, List, ◌++◌, Option, Some, None, option_and_then, refl}
use Rattle.std.proofs.Common.{sym, ap, subst, ◌∙◌, inl, inr, if◌then◌else◌, ◌<◌}
use Rattle.ft12.specs.declared.frame.Front.{Front}
use Rattle.ft12.specs.declared.frame.Front.TheVariants.{Whole, More, Never}
use Rattle.link.specs.Answers.{Service, Asked, Status, Reset, Counted, Answer, answer_of}
use Rattle.link.specs.Exchanges.{OpenExchange, Exchanges, IsOutstanding, answer_to, whole_of, view}
use Rattle.link.specs.Exchanges.{views, with_station, received_octets, timed}
use Rattle.link.specs.Gaps.{gap_at}
use Rattle.link.specs.Procedure.{LinkSettings, Link, Down, Available, Next, Held, held, MaySend}
use Rattle.link.specs.Procedure.{is_up, goes_down, after_silence, link_after}
use Rattle.link.specs.Turns.{station_at}
use Rattle.link.specs.Primary.{Outstanding, Primary, received_from, received, outcome_of}
use Rattle.link.specs.Primary.{outcome_at, outcome_after, outcome_from, received_outcome, is_late}
use Rattle.link.specs.Primary.{due_from, timed_out, due_outcome, due_outcome_from, miss_outcome}
use Rattle.link.specs.Primary.{unanswered, gap_of, turn_gap, with_gap}
use Rattle.link.specs.declared.outcome.Outcome.TheVariants as outcome
use Rattle.link.specs.Matching.{IsAllowed, IsReceived, IsAwaited, IsOver, IsCurrent, MatchesBy}
use Rattle.link.specs.Runs.{silence_outcome}
use Rattle.link.proofs.Matching.{said_now, received_open}
use Rattle.link.proofs.Called.{links_at}
use Rattle.link.specs.Procedure.{Probed, Never, is_kept, spent_silence, short_silence}

-- an exchange that is over isn't outstanding
over_not : (front : List ℕ → Front) (address : ℕ) (x : OpenExchange) → IsOver front address x
    → IsOutstanding address (view front x).exchange → ⊥
over_not front address x (inl closed) out = let no : x.closed ≡ false = out.1 in cc
over_not front address x (inr (inl given)) out = let no : x.given_up ≡ false = out.2 in cc
over_not front address x (inr (inr a)) out = let now = said_now front address x (Some a.0) a.1 in
    let none = out.0 in cc

-- nothing has arrived yet
none_yet : (front : List ℕ → Front) (address : ℕ) (x : OpenExchange) (h : Option (List ℕ))
    → IsReceived front address x h →
    option_and_then (answer_of address x.request) (whole_of (front x.octets)) ≡ None
none_yet front address x (Some octets) m =
    ap (λ (f : Front). option_and_then (answer_of address x.request) (whole_of f)) m.1
none_yet front address x None said = said_now front address x None said

awaited_out : (front : List ℕ → Front) (addresses : List ℕ) (turn : ℕ) (o : Outstanding)
    (x : OpenExchange)
    → IsAwaited front (slice_index addresses turn) turn o x →
    IsOutstanding (slice_index addresses x.station) (view front x).exchange
awaited_out front addresses turn o x w = (
  ap (λ (i : ℕ). option_and_then (answer_of (slice_index addresses i) x.request)
      (whole_of (front x.octets))) w.station
      ∙ none_yet front (slice_index addresses turn) x o.arrived w.arrived,
  w.waits,
  w.stands,
)

-- the exchange that is awaited, if one is outstanding
awaited_at : (front : List ℕ → Front) (addresses : List ℕ) (turn : ℕ) (o : Option Outstanding)
    (x : OpenExchange) →
    IsCurrent front addresses turn o (Some x)
    → IsOutstanding (slice_index addresses x.station) (view front x).exchange
    →
    (q : Outstanding) × (o ≡ Some q) × IsAwaited front (slice_index addresses turn) turn q x
awaited_at front addresses turn None x over out =
    absurd (over_not front (slice_index addresses x.station) x over out)
awaited_at front addresses turn (Some q) x w out = (q, refl, w)

pub logged_octets : (front : List ℕ → Front) (settings : LinkSettings) (addresses : List ℕ)
    (p : Primary) (e : Exchanges)
    (octets : List ℕ) (x : OpenExchange) →
    MatchesBy front settings addresses p e → e.current ≡ Some x
    → IsOutstanding (slice_index addresses x.station) (view front x).exchange →
    received_outcome front p octets
    ≡ with_gap (gap_at front addresses x.station e)
    (outcome_of x.station x.request (answer_to (slice_index addresses x.station)
    (view front (received_octets octets x)).exchange))
logged_octets front settings addresses p e octets x t latest out =
    let a = awaited_at front addresses p.turn p.outstanding x
    (subst (λ (c : Option OpenExchange). IsCurrent front addresses p.turn p.outstanding c) latest
    t.current)
    out in
    ap (λ (o : Option Outstanding). outcome_from front p o octets) a.1 ∙ go a.0 a.2
  where
    go : (q : Outstanding) → IsAwaited front (slice_index addresses p.turn) p.turn q x →
        outcome_after front p q q.arrived octets
        ≡ with_gap (gap_at front addresses x.station e)
        (outcome_of x.station x.request (answer_to (slice_index addresses x.station)
        (view front (received_octets octets x)).exchange))
    go q w =
        by_received q.arrived w.arrived
        ∙ ap (λ (g : Option ℕ). with_gap g (outcome_of p.turn x.request
        (option_and_then (answer_of (slice_index addresses p.turn) x.request)
        (whole_of (front (x.octets ++ octets)))))) gap
        ∙ ap (λ (i : ℕ). with_gap (gap_at front addresses i e)
        (outcome_of i x.request (option_and_then (answer_of (slice_index addresses i) x.request)
        (whole_of (front (x.octets ++ octets)))))) (sym w.station)
        ∙ ap (λ (z : OpenExchange). with_gap (gap_at front addresses x.station e)
        (outcome_of x.station x.request (answer_to (slice_index addresses x.station)
        (view front z).exchange)))
        (sym (received_open octets x w.waits w.stands))
      where
        gap : turn_gap p ≡ gap_at front addresses p.turn e
        gap = ap gap_of (sym (t.sessions p.turn))

        by_front : (f : Front) →
            outcome_at p q (whole_of f) ≡ with_gap (turn_gap p)
            (outcome_of p.turn x.request
            (option_and_then (answer_of (slice_index addresses p.turn) x.request)
            (whole_of f)))
        by_front More = refl
        by_front (Never place why) = refl
        by_front (Whole frame n) =
            ap
            (λ (a : ℕ). with_gap (turn_gap p)
            (outcome_of p.turn q.request (answer_of a q.request frame)))
            (t.address p.turn)
            ∙ ap (λ (r : Asked). with_gap (turn_gap p)
            (outcome_of p.turn r (answer_of (slice_index addresses p.turn) r frame)))
            (sym w.request)

        by_received : (h : Option (List ℕ)) → IsReceived front (slice_index addresses p.turn) x h →
            outcome_after front p q h octets
            ≡ with_gap (turn_gap p) (outcome_of p.turn x.request
            (option_and_then (answer_of (slice_index addresses p.turn) x.request)
            (whole_of (front (x.octets ++ octets)))))
        by_received None said =
            ap (λ (m : Option Answer). with_gap (turn_gap p) (outcome_of p.turn x.request m))
            (sym (said octets))
        by_received (Some before) so =
            ap (λ (b : List ℕ). outcome_at p q (whole_of (front (b ++ octets)))) so.0
            ∙ by_front (front (x.octets ++ octets))

-- nothing is outstanding
abbrev pub NoneIsOutstanding : (front : List ℕ → Front) → (addresses : List ℕ) → Exchanges → Type 0
NoneIsOutstanding front addresses e = (x : OpenExchange) → e.current ≡ Some x
    → IsOutstanding (slice_index addresses x.station) (view front x).exchange → ⊥

free_then : (front : List ℕ → Front) (settings : LinkSettings) (addresses : List ℕ) (p : Primary)
    (e : Exchanges)
    → MatchesBy front settings addresses p e →
    NoneIsOutstanding front addresses e → p.outstanding ≡ None
free_then front settings addresses p e t none = go p.outstanding e.current refl t.current
  where
    go : (o : Option Outstanding) (c : Option OpenExchange) → e.current ≡ c
        → IsCurrent front addresses p.turn o c
        → o ≡ None
    go None c is so = refl
    go (Some q) None is so = absurd so
    go (Some q) (Some x) is w = absurd (none x is (awaited_out front addresses p.turn q x w))

pub quiet_octets : (front : List ℕ → Front) (settings : LinkSettings) (addresses : List ℕ)
    (p : Primary)
    (e : Exchanges) (octets : List ℕ) →
    MatchesBy front settings addresses p e → NoneIsOutstanding front addresses e
    → (received front p octets ≡ p) × (received_outcome front p octets ≡ outcome.None)
quiet_octets front settings addresses p e octets t none =
    let free = free_then front settings addresses p e t none in (
      ap (λ (o : Option Outstanding). received_from front p o octets) free,
      ap (λ (o : Option Outstanding). outcome_from front p o octets) free,
    )

pub quiet_due : (front : List ℕ → Front) (settings : LinkSettings) (addresses : List ℕ)
    (p : Primary) (e : Exchanges)
    (at : ℕ) →
    MatchesBy front settings addresses p e → NoneIsOutstanding front addresses e
    → (timed_out p at ≡ p) × (due_outcome p at ≡ outcome.None)
quiet_due front settings addresses p e at t none =
    let free = free_then front settings addresses p e t none in (
      ap (λ (o : Option Outstanding). due_from p o at) free,
      ap (λ (o : Option Outstanding). due_outcome_from p o at) free,
    )

-- whether the moment closes it
late_so : (front : List ℕ → Front) (settings : LinkSettings) (addresses : List ℕ) (p : Primary)
    (e : Exchanges)
    (at : ℕ) (x : OpenExchange) (q : Outstanding) →
    MatchesBy front settings addresses p e → IsAwaited front (slice_index addresses p.turn) p.turn q
    x
    → is_late p q at ≡ (timed settings.answer_ms at x).closed
late_so front settings addresses p e at x q t w =
    ap (λ (s : LinkSettings). nat_le (q.since + s.answer_ms) at) t.settings_are
    ∙ ap (λ (s : ℕ). nat_le (s + settings.answer_ms) at) (sym w.since)
    ∙ ap (λ (g : Bool). not g && nat_le (x.since + settings.answer_ms) at) (sym w.stands)
    ∙ ap (λ (c : Bool). c || (not x.given_up && nat_le (x.since + settings.answer_ms) at))
    (sym w.waits)

pub early_due : (front : List ℕ → Front) (settings : LinkSettings) (addresses : List ℕ)
    (p : Primary) (e : Exchanges)
    (at : ℕ) (x : OpenExchange) →
    MatchesBy front settings addresses p e → e.current ≡ Some x
    → IsOutstanding (slice_index addresses x.station) (view front x).exchange →
    (timed settings.answer_ms at x).closed ≡ false → (timed_out p at ≡ p)
    × (due_outcome p at ≡ outcome.None)
early_due front settings addresses p e at x t latest out early =
    let a = awaited_at front addresses p.turn p.outstanding x
    (subst (λ (c : Option OpenExchange). IsCurrent front addresses p.turn p.outstanding c) latest
    t.current)
    out in
    let late : is_late p a.0 at ≡ false = late_so front settings addresses p e at x a.0 t a.2
    ∙ early in (
      ap (λ (o : Option Outstanding). due_from p o at) a.1
          ∙ ap (λ (b : Bool). if b then unanswered p a.0 else p) late,
      ap (λ (o : Option Outstanding). due_outcome_from p o at) a.1
          ∙ ap (λ (b : Bool). if b then miss_outcome p a.0.request else outcome.None) late,
    )

-- a service that isn't sent again any more takes the link down
held_falls : (settings : LinkSettings) (sent fcb : Bool) (asked service : Service) (missed : ℕ)
    (probed : Probed) →
    goes_down (Counted sent asked) (held settings fcb service missed probed)
    ≡ not (is_up (held settings fcb service missed probed))
held_falls settings sent fcb asked service missed probed =
    go (nat_lt settings.retries missed) (is_kept settings probed)
  where
    go : (b hold : Bool) →
        goes_down (Counted sent asked) (if b
        then (if hold then Held fcb service (spent_silence settings probed) else Down) else
        Held fcb service (short_silence missed probed))
        ≡ not (is_up (if b then (if hold then Held fcb service (spent_silence settings probed)
        else Down) else Held fcb service
        (short_silence missed probed)))
    go true true = refl
    go true false = refl
    go false hold = refl

falls : (settings : LinkSettings) (request : Asked) (link : Link) → MaySend link request →
    goes_down request (after_silence settings request true link)
    ≡ (is_up link && not (is_up (after_silence settings request true link)))
falls settings Status Down may = refl
falls settings Status Available may = refl
falls settings Status (Next fcb) may = absurd may
falls settings Status (Held fcb service missed) may = refl
falls settings Reset Down may = absurd may
falls settings Reset Available may = refl
falls settings Reset (Next fcb) may = absurd may
falls settings Reset (Held fcb service missed) may = absurd may
falls settings (Counted sent asked) Down may = absurd may
falls settings (Counted sent asked) Available may = absurd may
falls settings (Counted sent asked) (Next fcb) may =
    held_falls settings sent sent asked asked 1 Never
falls settings (Counted sent asked) (Held fcb service missed) may =
    held_falls settings sent sent asked asked (suc missed.missed) missed.probed

pub logged_due : (front : List ℕ → Front) (settings : LinkSettings) (addresses : List ℕ)
    (p : Primary)
    (e : Exchanges)
    (at : ℕ) (x : OpenExchange) →
    MatchesBy front settings addresses p e → e.current ≡ Some x
    → IsOutstanding (slice_index addresses x.station) (view front x).exchange →
    (timed settings.answer_ms at x).closed ≡ true →
    due_outcome p at
    ≡ silence_outcome x.station (link_after settings (slice_index addresses x.station) Down
    (with_station x.station (views front e.ended)))
    (after_silence settings x.request true (link_after settings (slice_index addresses x.station)
    Down
    (with_station x.station (views front e.ended))))
logged_due front settings addresses p e at x t latest out late =
    let a = awaited_at front addresses p.turn p.outstanding x
    (subst (λ (c : Option OpenExchange). IsCurrent front addresses p.turn p.outstanding c) latest
    t.current)
    out in
    let due : is_late p a.0 at ≡ true = late_so front settings addresses p e at x a.0 t a.2
    ∙ late in
    let links = links_at front settings addresses p e (Some a.0) a.1 t in
    let may : MaySend (station_at p.stations p.turn).link a.0.request =
    subst (λ (o : Option Outstanding). IsAllowed p.stations p.turn o) a.1 t.allowed in
    ap (λ (o : Option Outstanding). due_outcome_from p o at) a.1
    ∙ ap (λ (b : Bool). if b then miss_outcome p a.0.request else outcome.None) due
    ∙ ap (λ (b : Bool). if b then outcome.Down p.turn else outcome.None)
    (falls p.settings a.0.request (station_at p.stations p.turn).link may)
    ∙ ap (λ (s : LinkSettings). silence_outcome p.turn (station_at p.stations p.turn).link
    (after_silence s a.0.request true (station_at p.stations p.turn).link)) t.settings_are
    ∙ ap (λ (r : Asked). silence_outcome p.turn (station_at p.stations p.turn).link
    (after_silence settings r true (station_at p.stations p.turn).link)) (sym a.2.request)
    ∙ ap (λ (l : Link). silence_outcome p.turn l (after_silence settings x.request true l))
    (sym (links p.turn))
    ∙ ap (λ (i : ℕ). silence_outcome i (link_after settings (slice_index addresses i) Down
    (with_station i (views front e.ended)))
    (after_silence settings x.request true (link_after settings (slice_index addresses i) Down
    (with_station i (views front e.ended))))) (sym a.2.station)
