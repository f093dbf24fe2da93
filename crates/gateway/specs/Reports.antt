-- What the line brought, as its log shows: exchanges, and the objects of the reports taken.
use Rattle.std.specs.Prelude.{◌≡◌, ℕ, suc, ◌+◌, ◌<◌, ◌==◌, List, [], ◌∷◌, slice_index, length}
use Rattle.std.specs.Prelude.{Option, Some, None, option_and_then, option_map, if◌then◌else◌}
use Rattle.std.specs.List.{flat_map}
use Rattle.ft12.specs.Fronts.{front_of}
use Rattle.asdu.specs.declared.sizes.Sizes.{Sizes}
use Rattle.asdu.specs.InformationObjects.{InformationObject}
use Rattle.link.specs.declared.service.Asked.{Asked}
use Rattle.link.specs.declared.procedure.Link.TheVariants.{Down}
use Rattle.link.specs.declared.settings.LinkSettings.{LinkSettings}
use Rattle.link.specs.Exchanges.{Exchange, Exchanges, Sending, no_exchanges, received_current}
use Rattle.link.specs.Exchanges.{timed_current, begun_by, views, all_of, with_station}
use Rattle.link.specs.Exchanges.{reports_of_exchanges}
use Rattle.link.specs.Carried.{commands_given_up}
use Rattle.link.specs.Procedure.{KeepsFrameCountBit}
use Rattle.link.specs.Requests.{request_in}
use Rattle.session.specs.Runs.{Settings}
use Rattle.command.specs.declared.station.StationInfo.{StationInfo}
use Rattle.gateway.specs.Log.{Log, Came, Went, LineIn, Restarted, LineOut, latest}
use Rattle.gateway.specs.Objects.{monitor_objects, parts_of, pieces_of_report}

-- What a gateway is set to: its line, the link addresses of its stations, the sizes of the line's
-- ASDUs, the places of its queue, the session's numbers and times (k, w, t1, t2, t3), what commands
-- ask of the stations, and how long a selection lasts.
pub record Setup : Type 0 where
  pub link : LinkSettings
  pub addresses : List ℕ
  pub sizes : Sizes
  pub places : ℕ
  pub session : Settings
  pub stations : List StationInfo
  pub select_ms : ℕ
  pub max_age_ms : ℕ

abbrev pub address_at : List ℕ → ℕ → ℕ
address_at addresses i = slice_index addresses i

-- the place of an address among the stations'
abbrev pub index_of : ℕ → List ℕ → Option ℕ
index_of address [] = None
index_of address (a ∷ addresses) =
    if a == address then Some 0 else option_map suc (index_of address addresses)

-- each station is found by its address
abbrev pub AreFound : List ℕ → Type 0
AreFound addresses = (i : ℕ) → i < length addresses →
    index_of (address_at addresses i) addresses ≡ Some i

-- a request to the station with this address, if there is one
abbrev pub sent_to : List ℕ → (ℕ × Asked) → Option Sending
sent_to addresses request =
    option_map (λ i. record { station = i; request = request.1 }) (index_of request.0 addresses)

-- the request that octets are, and the place of its station; it is read back from the octets, so
-- that the exchanges of a log compute (docs/DECISIONS.md, "Exchanges read their request back")
abbrev pub sending_in : Setup → List ℕ → Option Sending
sending_in p octets = option_and_then (sent_to p.addresses) (request_in p.link.size octets)

-- The exchanges of a log (profile). Each request begins one. Its octets are those that come in
-- later steps, up to and with the step in which the next request goes out or whose moment is
-- answer_ms past the request, and this moment closes it. A restart gives up each command without an
-- answer.
abbrev pub exchanges_of : Setup → Log → Exchanges
exchanges_of p [] = no_exchanges
exchanges_of p (Came now (LineIn octets) ∷ log) =
    let before = exchanges_of p log in
    record {
      ended = before.ended;
      current = timed_current p.link.answer_ms (latest (Came now (LineIn octets) ∷ log))
          (received_current octets before.current);
    }
exchanges_of p (Came now Restarted ∷ log) =
    commands_given_up p.link (front_of p.link.size) p.addresses (exchanges_of p log)
exchanges_of p (Came now event ∷ log) =
    let before = exchanges_of p log in
    record {
      ended = before.ended;
      current = timed_current p.link.answer_ms (latest (Came now event ∷ log)) before.current;
    }
exchanges_of p (Went now (LineOut octets) ∷ log) =
    begun_by now (sending_in p octets) (exchanges_of p log)
exchanges_of p (Went now action ∷ log) = exchanges_of p log

-- the exchanges with one station, named by its index
abbrev pub exchanges_with : Setup → ℕ → Log → List Exchange
exchanges_with p i log = with_station i (views (front_of p.link.size) (all_of (exchanges_of p log)))

-- the reports of the answered polls, in order
abbrev pub reports_in : Setup → Log → List (ℕ × List ℕ)
reports_in p log =
    reports_of_exchanges (front_of p.link.size) (address_at p.addresses) (exchanges_of p log)

-- the monitor objects of the reports taken, in order
abbrev pub taken_objects : Setup → Log → List InformationObject
taken_objects p log = flat_map (λ report. monitor_objects p.sizes report.1) (reports_in p log)

-- the pieces of the reports taken, in order
abbrev pub taken_pieces : Setup → Log → List (List ℕ)
taken_pieces p log = flat_map (λ report. pieces_of_report p.sizes report.1) (reports_in p log)

-- how many pieces these reports need
abbrev pub parts_of_all : Sizes → List (ℕ × List ℕ) → ℕ
parts_of_all sizes [] = 0
parts_of_all sizes (report ∷ reports) = parts_of sizes report.1 + parts_of_all sizes reports

-- Each station is asked as its link allows, with the frame count bit that is due (IEC 60870-5-2).
abbrev pub KeepsLinks : Setup → Log → Type 0
KeepsLinks p log = (i : ℕ) → i < length p.addresses →
    KeepsFrameCountBit p.link (address_at p.addresses i) Down (exchanges_with p i log)
