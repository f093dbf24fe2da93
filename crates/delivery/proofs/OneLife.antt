-- In one life of a gateway no link is given up.
use Rattle.std.specs.Prelude.{◌==◌}
use Rattle.std.proofs.Common.{◌≡◌, ℕ, Bool, true, false, List, [], ◌∷◌, ◌++◌, Option, Some, None}
use Rattle.std.proofs.Common.{refl}
use Rattle.std.proofs.Common.{if◌then◌else◌}
use Rattle.std.specs.List.{AllByRecursion}
use Rattle.ft12.specs.declared.frame.Front.{Front}
use Rattle.ft12.specs.Fronts.{front_of}
use Rattle.link.specs.Exchanges.{Exchange, OpenExchange, Exchanges, Sending, as_list, all_of}
use Rattle.link.specs.Exchanges.{received_current, timed_current, begun_by, view, views}
use Rattle.link.specs.Exchanges.{with_station}
use Rattle.gateway.specs.Log.{Log, Came, Went, Opened, LineIn, TcpIn, CutOff, Ticked, WallIs}
use Rattle.gateway.specs.Log.{Restarted, LineOut, TcpOut, Closed, GapOut, latest}
use Rattle.gateway.specs.Reports.{Setup, sending_in, exchanges_of, exchanges_with}
use Rattle.delivery.specs.Delivery.{IsOneLife}

abbrev Stand : List OpenExchange → Type 0
Stand xs = AllByRecursion (λ (x : OpenExchange). x.given_up ≡ false) xs

abbrev Stands : Option OpenExchange → Type 0
Stands None = Unit {0}
Stands (Some x) = x.given_up ≡ false

record AllStand (e : Exchanges) : Type 0 where
  ended : Stand e.ended
  current : Stands e.current

received_stands : (octets : List ℕ) (c : Option OpenExchange) → Stands c
    → Stands (received_current octets c)
received_stands octets None h = tt
received_stands octets (Some x) h = h

timed_stands : (ms at : ℕ) (c : Option OpenExchange) → Stands c → Stands (timed_current ms at c)
timed_stands ms at None h = tt
timed_stands ms at (Some x) h = h

both_stand : (xs ys : List OpenExchange) → Stand xs → Stand ys → Stand (xs ++ ys)
both_stand [] ys h k = k
both_stand (x ∷ xs) ys h k = (h.0, both_stand xs ys h.1 k)

it_stands : (c : Option OpenExchange) → Stands c → Stand (as_list c)
it_stands None h = tt
it_stands (Some x) h = (h, tt)

timed_stand : (p : Setup) (at : ℕ) (e : Exchanges) → AllStand e
    → AllStand (record { ended = e.ended; current = timed_current p.link.answer_ms at e.current })
timed_stand p at e h = record {
  ended = h.ended;
  current = timed_stands p.link.answer_ms at e.current h.current;
}

begun_stand : (now : ℕ) (s : Option Sending) (e : Exchanges) → AllStand e
    → AllStand (begun_by now s e)
begun_stand now None e h = h
begun_stand now (Some s) e h = record {
  ended = both_stand e.ended (as_list e.current) h.ended (it_stands e.current h.current);
  current = refl;
}

all_stand : (p : Setup) (log : Log) → IsOneLife log → AllStand (exchanges_of p log)
all_stand p [] one = record { ended = tt; current = tt }
all_stand p (Came now Restarted ∷ log) one = absurd one
all_stand p (Came now (LineIn octets) ∷ log) one =
    let h = all_stand p log one in
    record {
      ended = h.ended;
      current = timed_stands p.link.answer_ms (latest (Came now (LineIn octets) ∷ log))
          (received_current octets (exchanges_of p log).current)
          (received_stands octets (exchanges_of p log).current h.current);
    }
all_stand p (Came now Opened ∷ log) one =
    timed_stand p (latest (Came now Opened ∷ log)) (exchanges_of p log) (all_stand p log one)
all_stand p (Came now (TcpIn octets) ∷ log) one =
    timed_stand p (latest (Came now (TcpIn octets) ∷ log)) (exchanges_of p log)
    (all_stand p log one)
all_stand p (Came now CutOff ∷ log) one =
    timed_stand p (latest (Came now CutOff ∷ log)) (exchanges_of p log) (all_stand p log one)
all_stand p (Came now Ticked ∷ log) one =
    timed_stand p (latest (Came now Ticked ∷ log)) (exchanges_of p log) (all_stand p log one)
all_stand p (Came now (WallIs number) ∷ log) one =
    timed_stand p (latest (Came now (WallIs number) ∷ log)) (exchanges_of p log)
    (all_stand p log one)
all_stand p (Went now (LineOut octets) ∷ log) one =
    begun_stand now (sending_in p octets) (exchanges_of p log) (all_stand p log one)
all_stand p (Went now (TcpOut octets) ∷ log) one = all_stand p log one
all_stand p (Went now (Closed cause) ∷ log) one = all_stand p log one
all_stand p (Went now (GapOut station session) ∷ log) one = all_stand p log one

with_stand : (front : List ℕ → Front) (i : ℕ) (xs : List OpenExchange) → Stand xs
    → AllByRecursion (λ (x : Exchange). x.given_up ≡ false) (with_station i (views front xs))
with_stand front i [] h = tt
with_stand front i (x ∷ xs) h = go (x.station == i) (with_stand front i xs h.1)
  where
    go : (b : Bool)
        → AllByRecursion (λ (x : Exchange). x.given_up ≡ false) (with_station i (views front xs))
        → AllByRecursion (λ (x : Exchange). x.given_up ≡ false)
        (if b then (view front x).exchange ∷ with_station i (views front xs)
        else with_station i (views front xs))
    go true rest = (h.0, rest)
    go false rest = rest

pub none_given_up : (p : Setup) (log : Log) (i : ℕ) → IsOneLife log
    → AllByRecursion (λ (x : Exchange). x.given_up ≡ false) (exchanges_with p i log)
none_given_up p log i one =
    let h = all_stand p log one in
    let e = exchanges_of p log in
    with_stand (front_of p.link.size) i (all_of e)
    (both_stand e.ended (as_list e.current) h.ended (it_stands e.current h.current))
