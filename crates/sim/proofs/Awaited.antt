-- What comes of the line is what waits, and the requests of its exchanges.
use Rattle.std.proofs.Common.{◌≡◌, ℕ, ◌+◌, ◌-◌, ◌&&◌, Bool, true, false, List, [], ◌∷◌, ◌++◌}
use Rattle.std.proofs.Common.{Option, Some, None, nat_le, refl, sym, ap, ◌∙◌, if◌then◌else◌}
use Rattle.std.specs.Prelude.{◌==◌, not}
use Rattle.std.proofs.lemmas.List.{append-nil}
use Rattle.ft12.specs.declared.frame.LinkSize.{LinkSize}
use Rattle.ft12.specs.Fronts.{front_of}
use Rattle.link.specs.declared.service.Asked.{Asked}
use Rattle.link.specs.Delivery.{requests_of}
use Rattle.link.specs.Exchanges.{Exchanges, Sending, all_of, received_current, timed_current}
use Rattle.link.specs.Exchanges.{begun_by, view}
use Rattle.gateway.specs.Log.{Log, Came, Went, LineIn, Opened, TcpIn, CutOff, Ticked, WallIs}
use Rattle.gateway.specs.Log.{Restarted, LineOut, TcpOut, Closed, GapOut, latest}
use Rattle.gateway.specs.Reports.{Setup, sending_in, exchanges_of, exchanges_with}
use Rattle.sim.specs.declared.centre.Centre.{Centre}
use Rattle.sim.specs.declared.directive.Directive.{Directive}
use Rattle.sim.specs.Centres.{start_apdu, acknowledging_apdu}
use Rattle.sim.specs.Losses.{fate_of, ack_of, is_cut_at, sent_at, wall_at}
use Rattle.sim.specs.Lives.{requests_in}
use Rattle.sim.specs.Calls.{line_event, quiet_event, sending_event, usual_event, walled_event}
use Rattle.sim.specs.Calls.{event_at}
use Rattle.sim.specs.Outstations.{is_received, request_to, requests_to}
use Rattle.sim.proofs.Turns.{asked_of}
use Rattle.sim.proofs.Fronts.{its, begun}
use Rattle.sim.proofs.Exchanging.{its_requests, after_current, timed_requests, received_requests}
use Rattle.sim.proofs.Exchanging.{restarted_requests}

-- What comes of the line is what waits

line_waits : (octets : List ℕ) (waiting : Option (List ℕ)) → LineIn octets ≡ line_event waiting
    → waiting ≡ Some octets
line_waits octets None e = cc
line_waits octets (Some piece) e = cc

quiet_waits : (octets : List ℕ) (ack : ℕ) (c : Centre) (waiting : Option (List ℕ))
    → LineIn octets ≡ quiet_event ack c waiting → waiting ≡ Some octets
quiet_waits octets ack c waiting e = go (nat_le ack (c.received - c.acknowledged)) e
  where
    go : (b : Bool) → LineIn octets ≡ (if b then TcpIn (acknowledging_apdu c)
        else line_event waiting)
        → waiting ≡ Some octets
    go true f = cc
    go false f = line_waits octets waiting f

sending_waits : (octets : List ℕ) (m : Option (List ℕ)) (ack : ℕ) (c : Centre)
    (waiting : Option (List ℕ))
    → LineIn octets ≡ sending_event m ack c waiting → waiting ≡ Some octets
sending_waits octets (Some asdu) ack c waiting e = cc
sending_waits octets None ack c waiting e = quiet_waits octets ack c waiting e

usual_waits : (octets : List ℕ) (ds : List Directive) (call : ℕ) (c : Centre)
    (waiting : Option (List ℕ))
    → LineIn octets ≡ usual_event ds call c waiting → waiting ≡ Some octets
usual_waits octets ds call c waiting e = go (c.is_open && is_cut_at ds call) (not c.is_open)
    (not c.is_started) e
  where
    go : (x y z : Bool)
        → LineIn octets
        ≡ (if x then CutOff else if y then Opened else if z then TcpIn start_apdu
        else sending_event (sent_at ds call)
        (ack_of ds) c waiting) → waiting ≡ Some octets
    go true y z f = cc
    go false true z f = cc
    go false false true f = cc
    go false false false f = sending_waits octets (sent_at ds call) (ack_of ds) c waiting f

pub event_waits : (octets : List ℕ) (ds : List Directive) (call : ℕ) (c : Centre)
    (waiting : Option (List ℕ))
    → LineIn octets ≡ event_at ds call c waiting → waiting ≡ Some octets
event_waits octets ds call c waiting e = walled (wall_at ds call) e
  where
    walled : (n : Option ℕ) → LineIn octets ≡ walled_event n (usual_event ds call c waiting)
        → waiting ≡ Some octets
    walled (Some number) f = cc
    walled None f = usual_waits octets ds call c waiting f

-- The requests of its exchanges

asked-append : (xs ys : List (Bool × Asked)) → asked_of (xs ++ ys) ≡ asked_of xs ++ asked_of ys
asked-append [] ys = refl
asked-append (x ∷ xs) ys = ap (λ (l : List Asked). x.1 ∷ l) (asked-append xs ys)

begun_requests : (size : LinkSize) (i now : ℕ) (arrived : Bool) (m : Option Sending) (e : Exchanges)
    → requests_of (its size i (all_of (begun_by now m e))) ≡ requests_of (its size i (all_of e))
    ++ asked_of (request_to i arrived m)
begun_requests size i now arrived None e = sym (append-nil (requests_of (its size i (all_of e))))
begun_requests size i now arrived (Some s) e = its_requests size i (all_of e) (begun now s ∷ [])
    ∙ ap (λ (l : List Asked). requests_of (its size i (all_of e)) ++ l) (go (s.station == i))
  where
    go : (b : Bool) → requests_of (if b then (view (front_of size) (begun now s)).exchange ∷ []
        else [])
        ≡ asked_of (if b then (arrived, s.request) ∷ [] else [])
    go true = refl
    go false = refl

pub same_asked : (p : Setup) (ds : List Directive) (i : ℕ) (log : Log)
    → requests_of (exchanges_with p i log) ≡ asked_of (requests_to p ds i log)
same_asked p ds i [] = refl
same_asked p ds i (Came now (LineIn octets) ∷ log) =
    let e : Exchanges = exchanges_of p log in
    let at : ℕ = latest (Came now (LineIn octets) ∷ log) in
    after_current p.link.size i e.ended e.current
    (timed_current p.link.answer_ms at (received_current octets e.current))
    (received_requests p.link.size i p.link.answer_ms at octets e.current) ∙ same_asked p ds i log
same_asked p ds i (Came now Opened ∷ log) =
    let e : Exchanges = exchanges_of p log in
    let at : ℕ = latest (Came now Opened ∷ log) in
    after_current p.link.size i e.ended e.current (timed_current p.link.answer_ms at e.current)
    (timed_requests p.link.size i p.link.answer_ms at e.current) ∙ same_asked p ds i log
same_asked p ds i (Came now (TcpIn octets) ∷ log) =
    let e : Exchanges = exchanges_of p log in
    let at : ℕ = latest (Came now (TcpIn octets) ∷ log) in
    after_current p.link.size i e.ended e.current (timed_current p.link.answer_ms at e.current)
    (timed_requests p.link.size i p.link.answer_ms at e.current) ∙ same_asked p ds i log
same_asked p ds i (Came now CutOff ∷ log) =
    let e : Exchanges = exchanges_of p log in
    let at : ℕ = latest (Came now CutOff ∷ log) in
    after_current p.link.size i e.ended e.current (timed_current p.link.answer_ms at e.current)
    (timed_requests p.link.size i p.link.answer_ms at e.current) ∙ same_asked p ds i log
same_asked p ds i (Came now Ticked ∷ log) =
    let e : Exchanges = exchanges_of p log in
    let at : ℕ = latest (Came now Ticked ∷ log) in
    after_current p.link.size i e.ended e.current (timed_current p.link.answer_ms at e.current)
    (timed_requests p.link.size i p.link.answer_ms at e.current) ∙ same_asked p ds i log
same_asked p ds i (Came now (WallIs number) ∷ log) =
    let e : Exchanges = exchanges_of p log in
    let at : ℕ = latest (Came now (WallIs number) ∷ log) in
    after_current p.link.size i e.ended e.current (timed_current p.link.answer_ms at e.current)
    (timed_requests p.link.size i p.link.answer_ms at e.current) ∙ same_asked p ds i log
same_asked p ds i (Came now Restarted ∷ log) = restarted_requests p i (exchanges_of p log)
    ∙ same_asked p ds i log
same_asked p ds i (Went now (LineOut octets) ∷ log) =
    let arrived : Bool = is_received (fate_of ds (requests_in log + 1)) in
    begun_requests p.link.size i now arrived (sending_in p octets) (exchanges_of p log)
    ∙ ap (λ (l : List Asked). l ++ asked_of (request_to i arrived (sending_in p octets)))
    (same_asked p ds i log)
    ∙ sym (asked-append (requests_to p ds i log) (request_to i arrived (sending_in p octets)))
same_asked p ds i (Went now (TcpOut octets) ∷ log) = same_asked p ds i log
same_asked p ds i (Went now (Closed cause) ∷ log) = same_asked p ds i log
same_asked p ds i (Went now (GapOut station session) ∷ log) = same_asked p ds i log
