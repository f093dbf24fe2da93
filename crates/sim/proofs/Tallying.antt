-- What is counted of a station at each step of a run is what its exchanges and turns so far make.
use Rattle.std.proofs.Common.{◌≡◌, ℕ, zero, suc, ◌+◌, ◌<◌, Bool, true, false, List, [], ◌∷◌, ◌++◌}
use Rattle.std.proofs.Common.{length, get_or, replicate, Option, Some, None, refl, sym, ap, subst}
use Rattle.std.proofs.Common.{◌∙◌, inl, inr, arith, if◌then◌else◌}
use Rattle.std.specs.Prelude.{◌==◌, ◌||◌, slice_set, option_and_then}
use Rattle.std.proofs.lemmas.List.{append-nil, length-replicate, length-set, get_or-set_same}
use Rattle.std.proofs.lemmas.List.{get_or-set_other}
use Rattle.std.proofs.lemmas.Bool.{eqb-true, eqb-false}
use Rattle.ft12.specs.declared.frame.Frame.{Frame}
use Rattle.ft12.specs.declared.frame.Front.{Front}
use Rattle.ft12.specs.declared.frame.Front.TheVariants.{Whole}
use Rattle.ft12.specs.Fronts.{front_of}
use Rattle.link.specs.declared.service.Asked.{Asked}
use Rattle.link.specs.Answers.{answer_of}
use Rattle.std.specs.Io.Iter.{u64_saturate}
use Rattle.link.specs.Delivery.{reports}
use Rattle.link.specs.Exchanges.{OpenExchange, Exchanges, Sending, as_list, all_of, received_octets}
use Rattle.link.specs.Exchanges.{received_current, timed_current, whole_of, view}
use Rattle.link.specs.Outstation.{Turn, all_done}
use Rattle.link.specs.Secondary.{Secondary}
use Rattle.gateway.specs.Log.{Log, Came, Went, LineIn, Opened, TcpIn, CutOff, Ticked, WallIs}
use Rattle.gateway.specs.Log.{Restarted, LineOut, TcpOut, Closed, GapOut}
use Rattle.gateway.specs.Reports.{Setup, address_at, sending_in, exchanges_of}
use Rattle.sim.specs.declared.tally.StationTally.{StationTally}
use Rattle.sim.specs.declared.tallies.LatestRequest.{LatestRequest}
use Rattle.sim.specs.Lives.{Plan, AreLived}
use Rattle.sim.specs.Tallies.{fresh_tally, tally_asked, tally_after, tally_at, given_at, each_asked}
use Rattle.sim.specs.Tallies.{each_received, awaited_with, awaited_in, tallies_of}
use Rattle.sim.proofs.Below.{Laws}
use Rattle.sim.proofs.Counting.{tally_step, tally_over, over_snoc}
use Rattle.sim.proofs.Fronts.{MayCome, IsLatestOf, IsLatest, its, its-append, AreFronts, begun}

-- after the latest exchange, of a station that had given so many reports before it
abbrev pub tally_latest : Setup → (i given : ℕ) → Option OpenExchange → StationTally → StationTally
tally_latest p i given None t = t
tally_latest p i given (Some x) t = if x.station == i then tally_step (address_at p.addresses i)
    (view (front_of p.link.size) x).exchange given t else t

-- after those that ended
abbrev pub tally_ended : Setup → (i : ℕ) → List OpenExchange → List Turn → StationTally
tally_ended p i ended turns = tally_over (address_at p.addresses i) 0 fresh_tally
    (its p.link.size i ended) turns

abbrev pub given_by_turns : List Turn → ℕ
given_by_turns turns = u64_saturate (length (reports (all_done turns)))

-- after all
abbrev pub IsTallied : (p : Setup) (i : ℕ) (e : Exchanges) (turns : List Turn)
    (waiting : Option (List ℕ))
    → AreFronts p.link.size i e turns waiting → StationTally → Type 0
IsTallied p i e turns waiting fronts t = t ≡ tally_latest p i (given_by_turns fronts.done) e.current
    (tally_ended p i e.ended fronts.done)

-- A moment

pub tally_timed : (p : Setup) (i given ms at : ℕ) (c : Option OpenExchange) (t : StationTally)
    → tally_latest p i given c t ≡ tally_latest p i given (timed_current ms at c) t
tally_timed p i given ms at None t = refl
tally_timed p i given ms at (Some x) t = refl

-- Octets

-- what says the same in answer
same_step : (p : Setup) (i given : ℕ) (x : OpenExchange) (octets others : List ℕ) (t : StationTally)
    → whole_of (front_of p.link.size octets) ≡ whole_of (front_of p.link.size others) →
    tally_after x.request (option_and_then (answer_of (address_at p.addresses i) x.request)
    (whole_of (front_of p.link.size octets))) (tally_asked x.request given t)
    ≡ tally_after x.request (option_and_then (answer_of (address_at p.addresses i) x.request)
    (whole_of (front_of p.link.size others))) (tally_asked x.request given t)
same_step p i given x octets others t e =
    ap (λ (f : Option Frame). tally_after x.request (option_and_then
    (answer_of (address_at p.addresses i) x.request) f) (tally_asked x.request given t)) e

-- the awaited exchange, if it is this station's
received_this : (laws : Laws) (p : Setup) (i given : ℕ) (each : List StationTally)
    (x : OpenExchange)
    (octets : List ℕ)
    (turn : Turn) (t : StationTally) → i < length each → x.station ≡ i
    → MayCome p.link.size (Some octets) x turn →
    tally_at each i ≡ tally_step (address_at p.addresses i) (view (front_of p.link.size) x).exchange
    given t →
    tally_at (each_received p (awaited_in (Some x)) octets each) i
    ≡ tally_step (address_at p.addresses i)
    (view (front_of p.link.size) (received_octets octets x)).exchange given t
received_this laws p i given each x octets turn t lt here may is =
    go (x.closed || x.given_up) x.octets refl refl
  where
    after : (closed : Bool) → List ℕ → StationTally
    after closed xs =
        tally_after x.request (option_and_then (answer_of (address_at p.addresses i) x.request)
        (whole_of (front_of p.link.size (if closed then xs else xs ++ octets))))
        (tally_asked x.request given t)

    whole_stays : (xs : List ℕ) → x.octets ≡ xs → (frame : Frame) (n : ℕ)
        → front_of p.link.size x.octets ≡ Whole frame n
        → whole_of (front_of p.link.size xs) ≡ whole_of (front_of p.link.size (xs ++ octets))
    whole_stays xs e frame n w =
        let there : front_of p.link.size xs ≡ Whole frame n = ap (front_of p.link.size) (sym e)
        ∙ w in
        ap whole_of (there ∙ sym (laws.whole p.link.size xs octets frame n there))

    later : (o : ℕ) (os : List ℕ) → (x.closed || x.given_up) ≡ false → x.octets ≡ o ∷ os
        → MayCome p.link.size (Some octets) x turn
        → tally_at each i ≡ after false (o ∷ os)
    later o os open_now e (inl (inl closed)) = let bad : ⊥ = cc in absurd bad
    later o os open_now e (inl (inr w)) =
        is ∙ ap (λ (xs : List ℕ). tally_after x.request
        (option_and_then (answer_of (address_at p.addresses i) x.request)
        (whole_of (front_of p.link.size xs)))
        (tally_asked x.request given t)) e
        ∙ same_step p i given x (o ∷ os) ((o ∷ os) ++ octets) t (whole_stays (o ∷ os) e w.0 w.1 w.2)
    later o os open_now e (inr h) = let bad : ⊥ = nonempty (sym e ∙ h.0) in absurd bad
      where
        nonempty : o ∷ os ≡ [] → ⊥
        nonempty f = cc

    go : (over : Bool) (xs : List ℕ) → (x.closed || x.given_up) ≡ over → x.octets ≡ xs →
        tally_at (each_received p (if over then None else awaited_with xs x) octets each) i
        ≡ tally_after x.request (option_and_then (answer_of (address_at p.addresses i) x.request)
        (whole_of (front_of p.link.size (if over then x.octets else x.octets ++ octets))))
        (tally_asked x.request given t)
    go true xs shut e = is
    go false (o ∷ os) open_now e =
        later o os open_now e may
        ∙ ap
        (λ (xs : List ℕ). tally_after x.request
        (option_and_then (answer_of (address_at p.addresses i) x.request)
        (whole_of (front_of p.link.size (xs ++ octets)))) (tally_asked x.request given t)) (sym e)
    go false [] open_now e =
        let asked : tally_at each i ≡ tally_asked x.request given t =
        is ∙ ap (λ (xs : List ℕ). tally_after x.request
        (option_and_then (answer_of (address_at p.addresses i) x.request)
        (whole_of (front_of p.link.size xs)))
        (tally_asked x.request given t)) e
        ∙ ap
        (λ (f : Front). tally_after x.request
        (option_and_then (answer_of (address_at p.addresses i) x.request)
        (whole_of f)) (tally_asked x.request given t)) (laws.nothing p.link.size) in
        subst (λ (k : ℕ). get_or
        (slice_set each k
        (tally_after x.request (option_and_then (answer_of (address_at p.addresses k) x.request)
        (whole_of (front_of p.link.size octets))) (tally_at each k))) i fresh_tally
        ≡ tally_after x.request (option_and_then (answer_of (address_at p.addresses i) x.request)
        (whole_of (front_of p.link.size (x.octets ++ octets)))) (tally_asked x.request given t))
        (sym here)
        (get_or-set_same each i (tally_after x.request
        (option_and_then (answer_of (address_at p.addresses i) x.request)
        (whole_of (front_of p.link.size octets)))
        (tally_at each i)) fresh_tally lt
        ∙ ap
        (tally_after x.request (option_and_then (answer_of (address_at p.addresses i) x.request)
        (whole_of (front_of p.link.size octets)))) asked
        ∙ ap
        (λ (xs : List ℕ). tally_after x.request
        (option_and_then (answer_of (address_at p.addresses i) x.request)
        (whole_of (front_of p.link.size (xs ++ octets)))) (tally_asked x.request given t)) (sym e))

-- and if it isn't
received_other : (p : Setup) (i : ℕ) (each : List StationTally) (x : OpenExchange) (octets : List ℕ)
    → (x.station ≡ i → ⊥)
    → tally_at (each_received p (awaited_in (Some x)) octets each) i ≡ tally_at each i
received_other p i each x octets apart = go (x.closed || x.given_up) x.octets
  where
    go : (over : Bool) (xs : List ℕ)
        → tally_at (each_received p (if over then None else awaited_with xs x) octets each) i
        ≡ tally_at each i
    go true xs = refl
    go false (y ∷ ys) = refl
    go false [] =
        get_or-set_other each x.station i (tally_after x.request
        (option_and_then (answer_of (address_at p.addresses x.station) x.request)
        (whole_of (front_of p.link.size octets))) (tally_at each x.station)) fresh_tally
        (λ e. apart (sym e))

pub tally_received : (laws : Laws) (p : Setup) (i given : ℕ) (each : List StationTally)
    (c : Option OpenExchange)
    (octets : List ℕ) (here : List Turn) (t : StationTally) → i < length each
    → IsLatest p.link.size i c here (Some octets) →
    tally_at each i ≡ tally_latest p i given c t
    → tally_at (each_received p (awaited_in c) octets each) i
    ≡ tally_latest p i given (received_current octets c) t
tally_received laws p i given each None octets here t lt latest is = is
tally_received laws p i given each (Some x) octets here t lt latest is =
    go (x.station == i) refl latest is
  where
    go : (b : Bool) → (x.station == i) ≡ b → IsLatestOf p.link.size b x here (Some octets)
        → tally_at each i
        ≡ (if b then tally_step (address_at p.addresses i) (view (front_of p.link.size) x).exchange
        given t else t) →
        tally_at (each_received p (awaited_in (Some x)) octets each) i
        ≡ (if b then tally_step (address_at p.addresses i)
        (view (front_of p.link.size) (received_octets octets x)).exchange given t else t)
    go true same k e = received_this laws p i given each x octets k.0 t lt
        (eqb-true x.station i same)
        k.3 e
    go false apart k e = received_other p i each x octets (eqb-false x.station i apart) ∙ e

-- Requests

-- once it isn't the latest any more
pub tally_all : (p : Setup) (i : ℕ) (e : Exchanges) (turns : List Turn) (waiting : Option (List ℕ))
    (h : AreFronts p.link.size i e turns waiting) (t : StationTally)
    → IsTallied p i e turns waiting h t
    → t ≡ tally_ended p i (all_of e) turns
tally_all p i e turns waiting h t is = is ∙ go e.current h.latest
  where
    a : ℕ
    a = address_at p.addresses i

    settled : (c : Option OpenExchange) → its p.link.size i (as_list c) ≡ [] → h.here ≡ []
        → tally_ended p i e.ended h.done ≡ tally_ended p i (e.ended ++ as_list c) turns
    settled c none here =
        ap (tally_over a 0 fresh_tally (its p.link.size i e.ended))
        (sym (h.both ∙ ap (λ (l : List Turn). h.done ++ l) here ∙ append-nil h.done))
        ∙ ap (λ xs. tally_over a 0 fresh_tally xs turns)
        (sym (its-append p.link.size i e.ended (as_list c)
        ∙ ap (λ xs. its p.link.size i e.ended ++ xs) none
        ∙ append-nil (its p.link.size i e.ended)))

    go : (c : Option OpenExchange) → IsLatest p.link.size i c h.here waiting
        → tally_latest p i (given_by_turns h.done) c (tally_ended p i e.ended h.done)
        ≡ tally_ended p i (e.ended ++ as_list c) turns
    go None latest = settled None refl latest
    go (Some x) latest = by (x.station == i) refl latest
      where
        by : (b : Bool) → (x.station == i) ≡ b → IsLatestOf p.link.size b x h.here waiting →
            (if b then tally_step a (view (front_of p.link.size) x).exchange (given_by_turns h.done)
            (tally_ended p i e.ended h.done) else tally_ended p i e.ended h.done)
            ≡ tally_ended p i (e.ended ++ x ∷ []) turns
        by true same k =
            sym (over_snoc a 0 fresh_tally (its p.link.size i e.ended) h.done
            (view (front_of p.link.size) x).exchange k.0 h.long
            ∙ ap (λ (n : ℕ). tally_step a (view (front_of p.link.size) x).exchange (u64_saturate n)
            (tally_ended p i e.ended h.done)) (let sum : 0 + length (reports (all_done h.done))
            ≡ length (reports (all_done h.done)) = omega arith in sum))
            ∙ ap
            (tally_over a 0 fresh_tally (its p.link.size i e.ended
            ++ (view (front_of p.link.size) x).exchange
            ∷ [])) (sym (h.both ∙ ap (λ (l : List Turn). h.done ++ l) k.1))
            ∙ ap (λ xs. tally_over a 0 fresh_tally xs turns)
            (sym (its-append p.link.size i e.ended (x ∷ [])
            ∙ ap (λ (b : Bool). its p.link.size i e.ended
            ++ (if b then (view (front_of p.link.size) x).exchange ∷ [] else [])) same))
        by false apart k =
            settled (Some x) (ap (λ (b : Bool). if b then (view (front_of p.link.size) x).exchange
            ∷ [] else []) apart)
            k

-- to another station
pub asked_other : (i : ℕ) (s : Sending) (stations : List Secondary) (each : List StationTally)
    → (s.station == i) ≡ false
    → tally_at (each_asked (Some s) stations each) i ≡ tally_at each i
asked_other i s stations each apart =
    get_or-set_other each s.station i (tally_asked s.request (given_at stations s.station)
    (tally_at each s.station))
    fresh_tally (λ e. eqb-false s.station i apart (sym e))

given_is : (ss : List Secondary) (i : ℕ) (d : Secondary) → i < length ss → given_at ss i
    ≡ (get_or ss i d).given
given_is [] i d lt = absurd (omega arith)
given_is (s ∷ ss) zero d lt = refl
given_is (s ∷ ss) (suc i) d lt = given_is ss i d (omega arith)

-- to this one
pub asked_this : (laws : Laws) (p : Setup) (i now : ℕ) (r : Asked) (stations : List Secondary)
    (each : List StationTally)
    (d : Secondary) (t : StationTally) → i < length each → i < length stations → tally_at each i ≡ t
    →
    tally_at (each_asked (Some (record { station = i; request = r })) stations each) i
    ≡ tally_step (address_at p.addresses i) (view (front_of p.link.size)
    (begun now (record { station = i; request = r }))).exchange (get_or stations i d).given t
asked_this laws p i now r stations each d t lt within is =
    get_or-set_same each i (tally_asked r (given_at stations i) (tally_at each i)) fresh_tally lt
    ∙ ap (λ (n : ℕ). tally_asked r n (tally_at each i)) (given_is stations i d within)
    ∙ ap (tally_asked r (get_or stations i d).given) is
    ∙ sym
    (ap (λ (f : Front). tally_after r (option_and_then (answer_of (address_at p.addresses i) r)
    (whole_of f))
    (tally_asked r (get_or stations i d).given t)) (laws.nothing p.link.size))

-- There is a tally for each station.

length_received : (p : Setup) (a : Option LatestRequest) (octets : List ℕ)
    (each : List StationTally)
    → length (each_received p a octets each) ≡ length each
length_received p None octets each = refl
length_received p (Some a) octets each =
    length-set each a.station
    (tally_after a.request (option_and_then (answer_of (address_at p.addresses a.station) a.request)
    (whole_of (front_of p.link.size octets))) (tally_at each a.station))

length_asked : (m : Option Sending) (stations : List Secondary) (each : List StationTally)
    → length (each_asked m stations each) ≡ length each
length_asked None stations each = refl
length_asked (Some s) stations each = length-set each s.station
    (tally_asked s.request (given_at stations s.station) (tally_at each s.station))

pub length_tallies : (plan : Plan) (log : Log) (answers : List (Option Frame))
    (stations : List Secondary)
    (lived : AreLived plan log answers stations)
    → length (tallies_of plan log answers stations lived)
    ≡ length plan.stations
length_tallies plan [] answers stations lived = length-replicate (length plan.stations) fresh_tally
length_tallies plan (Came now (LineIn octets) ∷ log) answers stations lived =
    length_received plan.setup (awaited_in (exchanges_of plan.setup log).current) octets
    (tallies_of plan log answers stations lived) ∙ length_tallies plan log answers stations lived
length_tallies plan (Came now Opened ∷ log) answers stations lived =
    length_tallies plan log answers stations lived
length_tallies plan (Came now (TcpIn octets) ∷ log) answers stations lived =
    length_tallies plan log answers stations lived
length_tallies plan (Came now CutOff ∷ log) answers stations lived =
    length_tallies plan log answers stations lived
length_tallies plan (Came now Ticked ∷ log) answers stations lived =
    length_tallies plan log answers stations lived
length_tallies plan (Came now (WallIs number) ∷ log) answers stations lived =
    length_tallies plan log answers stations lived
length_tallies plan (Came now Restarted ∷ log) answers stations lived =
    length_tallies plan log answers stations lived
length_tallies plan (Went now (LineOut octets) ∷ log) [] stations lived = absurd lived
length_tallies plan (Went now (LineOut octets) ∷ log) (answer ∷ answers) stations lived =
    length_asked (sending_in plan.setup octets) lived.0
    (tallies_of plan log answers lived.0 lived.2)
    ∙ length_tallies plan log answers lived.0 lived.2
length_tallies plan (Went now (TcpOut octets) ∷ log) answers stations lived =
    length_tallies plan log answers stations lived
length_tallies plan (Went now (Closed cause) ∷ log) answers stations lived =
    length_tallies plan log answers stations lived
length_tallies plan (Went now (GapOut station session) ∷ log) answers stations lived =
    length_tallies plan log answers stations lived

-- before the first call each is fresh
pub fresh_at : (n i : ℕ) → tally_at (replicate n fresh_tally) i ≡ fresh_tally
fresh_at zero i = refl
fresh_at (suc n) zero = refl
fresh_at (suc n) (suc i) = fresh_at n i
