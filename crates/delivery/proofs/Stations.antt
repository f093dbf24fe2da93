-- Each exchange of a log is one of a station of the settings.
use Rattle.std.specs.Prelude.{◌==◌, ◌&&◌, not, option_map, option_and_then}
use Rattle.std.proofs.Common.{◌≡◌, ℕ, zero, suc, ◌<◌, Bool, true, false, List, [], ◌∷◌, ◌++◌}
use Rattle.std.proofs.Common.{length}
use Rattle.std.proofs.Common.{Option, Some, None, refl, subst, arith, if◌then◌else◌}
use Rattle.std.specs.List.{AllByRecursion}
use Rattle.ft12.specs.declared.frame.Front.{Front}
use Rattle.ft12.specs.Fronts.{front_of}
use Rattle.link.specs.declared.service.Asked.{Asked}
use Rattle.link.specs.declared.answer.Answer.{Answer}
use Rattle.link.specs.declared.answer.Answer.TheVariants.{Report, Ready, Confirmed, Busy, NoData}
use Rattle.link.specs.declared.answer.Answer.TheVariants.{Unable}
use Rattle.link.specs.Exchanges.{OpenExchange, Exchanges, Sending, as_list, all_of}
use Rattle.link.specs.Exchanges.{received_current}
use Rattle.link.specs.Exchanges.{timed_current, begun_by, view, views, answer_to, report_by}
use Rattle.link.specs.Exchanges.{reports_of, marked, has_one_with, latest_marked, given_up_from}
use Rattle.link.specs.Exchanges.{given_up_at}
use Rattle.link.specs.Carried.{awaits_command_in, given_up_upto}
use Rattle.link.specs.Requests.{request_in}
use Rattle.gateway.specs.Log.{Log, Came, Went, Opened, LineIn, TcpIn, CutOff, Ticked, WallIs}
use Rattle.gateway.specs.Log.{Restarted, LineOut, TcpOut, Closed, GapOut, latest}
use Rattle.gateway.specs.Reports.{Setup, address_at, index_of, sent_to, sending_in, exchanges_of}
use Rattle.gateway.specs.Reports.{reports_in}

index_within : (address : ℕ) (addresses : List ℕ) (i : ℕ) → index_of address addresses ≡ Some i
    → i < length addresses
index_within address [] i h = cc
index_within address (a ∷ addresses) i h = go (a == address) (index_of address addresses)
    (λ j. index_within address addresses j) h
  where
    go : (b : Bool) (m : Option ℕ) → ((j : ℕ) → m ≡ Some j → j < length addresses)
        → (if b then Some 0 else option_map suc m) ≡ Some i → i < suc (length addresses)
    go true m ih e = let z : 0 ≡ i = cc in subst (λ n. n < suc (length addresses)) z (omega arith)
    go false None ih e = cc
    go false (Some j) ih e = let k : suc j ≡ i = cc in let below : j < length addresses =
        ih j refl in
        subst (λ n. n < suc (length addresses)) k (omega (arith, below))

-- the station of an exchange, if there is one, is below
abbrev IsBelow : ℕ → Option OpenExchange → Type 0
IsBelow n None = Unit {0}
IsBelow n (Some x) = x.station < n

record AreBelow (n : ℕ) (e : Exchanges) : Type 0 where
  ended : AllByRecursion (λ (x : OpenExchange). x.station < n) e.ended
  current : IsBelow n e.current

below_received : (n : ℕ) (octets : List ℕ) (x : Option OpenExchange) → IsBelow n x
    → IsBelow n (received_current octets x)
below_received n octets None h = tt
below_received n octets (Some x) h = h

below_timed : (n at ms : ℕ) (x : Option OpenExchange) → IsBelow n x
    → IsBelow n (timed_current ms at x)
below_timed n at ms None h = tt
below_timed n at ms (Some x) h = h

all_append : (n : ℕ) (xs ys : List OpenExchange)
    → AllByRecursion (λ (x : OpenExchange). x.station < n) xs
    → AllByRecursion (λ (x : OpenExchange). x.station < n) ys →
    AllByRecursion (λ (x : OpenExchange). x.station < n) (xs ++ ys)
all_append n [] ys h k = k
all_append n (x ∷ xs) ys h k = (h.0, all_append n xs ys h.1 k)

below_list : (n : ℕ) (x : Option OpenExchange) → IsBelow n x
    → AllByRecursion (λ (x : OpenExchange). x.station < n) (as_list x)
below_list n None h = tt
below_list n (Some x) h = (h, tt)

below_sent : (p : Setup) (octets : List ℕ) (s : Sending) → sending_in p octets ≡ Some s
    → s.station < length p.addresses
below_sent p octets s h = go (request_in p.link.size octets) h
  where
    found : (request : Asked) (m : Option ℕ) (address : ℕ) → index_of address p.addresses ≡ m
        → option_map (λ (i : ℕ). record { station = i; request = request }) m ≡ Some s → s.station
        < length p.addresses
    found request None address same e = cc
    found request (Some i) address same e =
        let k : record { station = i; request = request } ≡ s = cc in
        subst (λ (t : Sending). t.station < length p.addresses) k
        (index_within address p.addresses i same)

    go : (m : Option (ℕ × Asked)) → option_and_then (sent_to p.addresses) m ≡ Some s → s.station
        < length p.addresses
    go None e = cc
    go (Some request) e = found request.1 (index_of request.0 p.addresses) request.0 refl e

below_begun : (p : Setup) (now : ℕ) (m : Option Sending) (octets : List ℕ) (e : Exchanges)
    → sending_in p octets ≡ m
    → AreBelow (length p.addresses) e → AreBelow (length p.addresses) (begun_by now m e)
below_begun p now None octets e same h = h
below_begun p now (Some s) octets e same h = record {
  ended = all_append (length p.addresses) e.ended (as_list e.current) h.ended
      (below_list (length p.addresses) e.current h.current);
  current = below_sent p octets s same;
}

timed_below : (p : Setup) (at : ℕ) (e : Exchanges) → AreBelow (length p.addresses) e
    → AreBelow (length p.addresses)
    (record { ended = e.ended; current = timed_current p.link.answer_ms at e.current })
timed_below p at e h = record {
  ended = h.ended;
  current =
      below_timed (length p.addresses) at p.link.answer_ms e.current h.current;
}

received_below : (p : Setup) (octets : List ℕ) (at : ℕ) (e : Exchanges)
    → AreBelow (length p.addresses) e →
    AreBelow (length p.addresses) (record {
      ended = e.ended;
      current =
          timed_current p.link.answer_ms at (received_current octets e.current);
    })
received_below p octets at e h = record {
  ended = h.ended;
  current = below_timed (length p.addresses) at p.link.answer_ms (received_current octets e.current)
      (below_received (length p.addresses) octets e.current h.current);
}

-- A link that is given up leaves each exchange its station.
marked_below : (n k : ℕ) (xs : List OpenExchange)
    → AllByRecursion (λ (x : OpenExchange). x.station < n) xs
    → AllByRecursion (λ (x : OpenExchange). x.station < n) (latest_marked k xs)
marked_below n k [] h = tt
marked_below n k (x ∷ xs) h =
    go ((x.station == k) && not (has_one_with k xs)) (marked_below n k xs h.1)
  where
    go : (b : Bool) → AllByRecursion (λ (x : OpenExchange). x.station < n) (latest_marked k xs)
        → AllByRecursion (λ (x : OpenExchange). x.station < n)
        (if b then marked x ∷ xs else x ∷ latest_marked k xs)
    go true rest = (h.0, h.1)
    go false rest = (h.0, rest)

given_below : (n k : ℕ) (e : Exchanges) → AreBelow n e → AreBelow n (given_up_at k e)
given_below n k e h = go e.current h.current
  where
    go : (c : Option OpenExchange) → IsBelow n c → AreBelow n (given_up_from k e.ended c)
    go None there = record { ended = marked_below n k e.ended h.ended; current = tt }
    go (Some x) there = by_place (x.station == k)
      where
        by_place : (b : Bool) → AreBelow n
            (if b then record { ended = e.ended; current = Some (marked x) }
            else record { ended = latest_marked k e.ended; current = Some x })
        by_place true = record { ended = h.ended; current = there }
        by_place false =
            record { ended = marked_below n k e.ended h.ended; current = there }

upto_below : (p : Setup) (count : ℕ) (e : Exchanges) → AreBelow (length p.addresses) e
    → AreBelow (length p.addresses)
    (given_up_upto p.link (front_of p.link.size) p.addresses count e)
upto_below p zero e h = h
upto_below p (suc k) e h =
    go (given_up_upto p.link (front_of p.link.size) p.addresses k e)
    (awaits_command_in p.link (front_of p.link.size) p.addresses k
    (given_up_upto p.link (front_of p.link.size) p.addresses k e)) (upto_below p k e h)
  where
    go : (f : Exchanges) (b : Bool) → AreBelow (length p.addresses) f
        → AreBelow (length p.addresses) (if b then given_up_at k f else f)
    go f true before = given_below (length p.addresses) k f before
    go f false before = before

are_below : (p : Setup) (log : Log) → AreBelow (length p.addresses) (exchanges_of p log)
are_below p [] = record { ended = tt; current = tt }
are_below p (Came now (LineIn octets) ∷ log) =
    received_below p octets (latest (Came now (LineIn octets) ∷ log))
    (exchanges_of p log) (are_below p log)
are_below p (Came now Opened ∷ log) = timed_below p (latest (Came now Opened ∷ log))
    (exchanges_of p log)
    (are_below p log)
are_below p (Came now (TcpIn octets) ∷ log) = timed_below p (latest (Came now (TcpIn octets) ∷ log))
    (exchanges_of p log) (are_below p log)
are_below p (Came now CutOff ∷ log) = timed_below p (latest (Came now CutOff ∷ log))
    (exchanges_of p log)
    (are_below p log)
are_below p (Came now Ticked ∷ log) = timed_below p (latest (Came now Ticked ∷ log))
    (exchanges_of p log)
    (are_below p log)
are_below p (Came now (WallIs number) ∷ log) =
    timed_below p (latest (Came now (WallIs number) ∷ log))
    (exchanges_of p log) (are_below p log)
are_below p (Came now Restarted ∷ log) =
    upto_below p (length p.addresses) (exchanges_of p log) (are_below p log)
are_below p (Went now (LineOut octets) ∷ log) = below_begun p now (sending_in p octets) octets
    (exchanges_of p log) refl (are_below p log)
are_below p (Went now (TcpOut octets) ∷ log) = are_below p log
are_below p (Went now (Closed cause) ∷ log) = are_below p log
are_below p (Went now (GapOut station session) ∷ log) = are_below p log

report_below : (n station : ℕ) (m : Option Answer) (rest : List (ℕ × List ℕ)) → station < n
    → AllByRecursion (λ (r : ℕ × List ℕ). r.0 < n) rest →
    AllByRecursion (λ (r : ℕ × List ℕ). r.0 < n) (report_by station m ++ rest)
report_below n station None rest h k = k
report_below n station (Some Ready) rest h k = k
report_below n station (Some Confirmed) rest h k = k
report_below n station (Some Busy) rest h k = k
report_below n station (Some (Report asdu)) rest h k = (h, k)
report_below n station (Some NoData) rest h k = k
report_below n station (Some Unable) rest h k = k

reports_below : (n : ℕ) (front : List ℕ → Front) (address : ℕ → ℕ) (xs : List OpenExchange)
    → AllByRecursion (λ (x : OpenExchange). x.station < n) xs →
    AllByRecursion (λ (r : ℕ × List ℕ). r.0 < n) (reports_of address (views front xs))
reports_below n front address [] h = tt
reports_below n front address (x ∷ xs) h =
    report_below n x.station (answer_to (address x.station) (view front x).exchange)
    (reports_of address (views front xs)) h.0 (reports_below n front address xs h.1)

-- each report is from one of the stations
pub reporters : (p : Setup) (log : Log)
    → AllByRecursion (λ (r : ℕ × List ℕ). r.0 < length p.addresses)
    (reports_in p log)
reporters p log =
    let h = are_below p log in
    let e = exchanges_of p log in
    reports_below (length p.addresses) (front_of p.link.size) (address_at p.addresses) (all_of e)
    (all_append (length p.addresses) e.ended (as_list e.current) h.ended
    (below_list (length p.addresses) e.current h.current))
