-- A station's requests and reports are few: at most as many as the log has requests.
use Rattle.std.proofs.Common.{◌≡◌, ℕ, ◌+◌, ◌≤◌, Bool, true, false, List, [], ◌∷◌, length, Option}
use Rattle.std.proofs.Common.{Some, None, refl, sym, ap, subst, inl, inr, arith, if◌then◌else◌}
use Rattle.std.specs.Prelude.{◌==◌}
use Rattle.std.proofs.lemmas.List.{length-append, length-map}
use Rattle.link.specs.declared.service.Service.{Service}
use Rattle.link.specs.declared.service.Asked.{Asked}
use Rattle.link.specs.declared.service.Asked.TheVariants.{Status, Reset, Counted}
use Rattle.link.specs.Delivery.{requests_of, reports}
use Rattle.link.specs.Exchanges.{Exchange, Sending}
use Rattle.link.specs.Outstation.{Outstation, Turn, OutstationStep, OutstationRun, Serves}
use Rattle.link.specs.Outstation.{unreceived}
use Rattle.link.specs.Outstation.{unable, arrived, effects_of, all_done}
use Rattle.gateway.specs.Log.{Log, Came, Went, LineOut, TcpOut, Closed, GapOut}
use Rattle.gateway.specs.Reports.{Setup, sending_in, exchanges_with}
use Rattle.sim.specs.declared.directive.Directive.{Directive}
use Rattle.sim.specs.Losses.{fate_of}
use Rattle.sim.specs.Lives.{requests_in}
use Rattle.sim.specs.Outstations.{is_received, request_to, requests_to}
use Rattle.sim.proofs.Counting.{effects_one}
use Rattle.sim.proofs.Awaited.{same_asked}
use Rattle.sim.proofs.Turns.{asked_of, length_more}

one_request : (i : ℕ) (received_it : Bool) (m : Option Sending)
    → length (request_to i received_it m) ≤ 1
one_request i received_it None = omega arith
one_request i received_it (Some s) = go (s.station == i)
  where
    one : List (Bool × Asked)
    one = (received_it, s.request) ∷ []

    go : (b : Bool) → length (if b then one else []) ≤ 1
    go true = omega arith
    go false = omega arith

requests_few : (p : Setup) (ds : List Directive) (i : ℕ) (log : Log)
    → length (requests_to p ds i log) ≤ requests_in log
requests_few p ds i [] = omega arith
requests_few p ds i (Came now event ∷ log) = omega (arith, requests_few p ds i log)
requests_few p ds i (Went now (LineOut octets) ∷ log) =
    omega (
      arith,
      requests_few p ds i log,
      one_request i (is_received (fate_of ds (requests_in log + 1))) (sending_in p octets),
      length-append (requests_to p ds i log)
          (request_to i (is_received (fate_of ds (requests_in log + 1)))
          (sending_in p octets)),
    )
requests_few p ds i (Went now (TcpOut octets) ∷ log) = omega (arith, requests_few p ds i log)
requests_few p ds i (Went now (Closed cause) ∷ log) = omega (arith, requests_few p ds i log)
requests_few p ds i (Went now (GapOut station session) ∷ log) =
    omega (arith, requests_few p ds i log)

length-requests : (xs : List Exchange) → length (requests_of xs) ≡ length xs
length-requests [] = refl
length-requests (x ∷ xs) = omega (arith, length-requests xs)

pub exchanges_few : (p : Setup) (ds : List Directive) (i : ℕ) (log : Log)
    → length (exchanges_with p i log) ≤ requests_in log
exchanges_few p ds i log =
    let same : length (requests_of (exchanges_with p i log))
    ≡ length (asked_of (requests_to p ds i log)) =
    ap length (same_asked p ds i log) in
    omega (
      arith,
      same,
      length-requests (exchanges_with p i log),
      length-map (requests_to p ds i log) (λ (r : Bool × Asked). r.1),
      requests_few p ds i log,
    )

none_by : (turn other : Turn) → turn ≡ other → length (reports other.done) ≤ 1
    → length (reports turn.done) ≤ 1
none_by turn other e le = subst (λ (t : Turn). length (reports t.done) ≤ 1) (sym e) le

served_one : (station : ℕ) (bit : Option Bool) (old new : Outstation) (fcb : Bool)
    (service : Service) (turn : Turn)
    → Serves station bit old fcb service turn new → length (reports turn.done) ≤ 1
served_one station None old new fcb service turn h =
    none_by turn (record { answer = None; done = [] }) h.0
    (omega arith)
served_one station (Some bit) old new fcb service turn (inl h) =
    none_by turn (record { answer = old.last; done = [] }) h.1 (omega arith)
served_one station (Some bit) old new fcb service turn (inr h) =
    none_by turn (record { answer = Some h.1.0; done = effects_of service h.1.1 }) h.1.4
    (omega (arith, effects_one service h.1.1))

step_one : (station : ℕ) (old new : Outstation) (request : Asked) (turn : Turn)
    → OutstationStep station old request turn new → length (reports turn.done) ≤ 1
step_one station old new request turn (unreceived t n) =
    none_by turn (record { answer = None; done = [] }) t (omega arith)
step_one station old new request turn (unable frame is t n) =
    none_by turn (record { answer = Some frame; done = [] }) t (omega arith)
step_one station old new Status turn (arrived h) =
    none_by turn (record { answer = Some h.0; done = [] }) h.2
    (omega arith)
step_one station old new Reset turn (arrived h) =
    none_by turn (record { answer = Some h.0; done = [] }) h.2 (omega arith)
step_one station old new (Counted fcb service) turn (arrived h) =
    served_one station old.bit old new fcb service turn h

pub reports_few : (station : ℕ) (old new : Outstation) (requests : List Asked) (turns : List Turn)
    → OutstationRun station old requests turns new → length (reports (all_done turns))
    ≤ length turns
reports_few station old new [] [] run = omega arith
reports_few station old new [] (turn ∷ turns) run = absurd run
reports_few station old new (r ∷ rs) [] run = absurd run
reports_few station old new (r ∷ rs) (turn ∷ turns) run =
    omega (
      arith,
      step_one station old run.0 r turn run.1,
      reports_few station run.0 new rs turns run.2,
      length_more turn.done (all_done turns),
    )
