-- What a simulated line counts of the sessions of each station's link, event by event (this
-- gateway's own profile). That the counts are those of the log's exchanges, and of what the
-- stations did, is the promise of `stations_are_honest`.
use Rattle.std.specs.Prelude.{ℕ, ◌+◌, ◌-◌, ◌==◌, nat_le, ◌&&◌, ◌||◌, not, false, if◌then◌else◌}
use Rattle.std.specs.Prelude.{List, [], ◌∷◌, length, map, replicate, slice_index_or, slice_index}
use Rattle.std.specs.Prelude.{slice_set, Option, Some, None, option_and_then}
use Rattle.ft12.specs.declared.frame.Frame.{Frame}
use Rattle.ft12.specs.Fronts.{front_of}
use Rattle.link.specs.declared.service.Service.{Service}
use Rattle.link.specs.declared.service.Asked.{Asked}
use Rattle.link.specs.declared.service.Asked.TheVariants.{Status, Reset, Counted}
use Rattle.link.specs.declared.answer.Answer.{Answer}
use Rattle.link.specs.declared.answer.Answer.TheVariants.{Confirmed, Report, Unable}
use Rattle.link.specs.Answers.{answer_of}
use Rattle.std.specs.Io.Iter.{u64_saturate}
use Rattle.link.specs.Exchanges.{OpenExchange, Sending, whole_of}
use Rattle.link.specs.Secondary.{Secondary}
use Rattle.link.specs.Turns.{is_poll}
use Rattle.gateway.specs.Log.{Log, LogEntry, Came, Went, Input, LineIn, LineOut}
use Rattle.gateway.specs.Reports.{Setup, address_at, sending_in, exchanges_of}
use Rattle.sim.specs.declared.tally.StationTally.{StationTally}
use Rattle.sim.specs.declared.tallies.LatestRequest.{LatestRequest}
use Rattle.sim.specs.Lives.{Plan, AreLived}

-- One station

-- before the first request
abbrev pub fresh_tally : StationTally
fresh_tally = record { sessions = 0; gaps = 0; lost = 0; taken = 0; given = 0; is_polled = false }

-- a request goes out to a station that has given so many reports
abbrev pub tally_asked : Asked → (given : ℕ) → StationTally → StationTally
tally_asked Status given t = record t { given = given }
tally_asked Reset given t = record t { given = given }
tally_asked (Counted fcb service) given t =
    record t { given = given; is_polled = is_poll service }

-- a reset is answered: it ends the session before it, if there is one
abbrev pub tally_reset : StationTally → StationTally
tally_reset t = record t {
  sessions = u64_saturate (t.sessions + 1);
  gaps = if t.is_polled && not (t.sessions == 0) then u64_saturate (t.gaps + 1) else t.gaps;
  lost = t.given - t.taken;
  is_polled = false;
}

-- a poll or a command is answered
abbrev pub tally_served : Service → Answer → StationTally → StationTally
tally_served service (Report asdu) t = record t {
  taken = if is_poll service then u64_saturate (t.taken + 1) else t.taken;
  is_polled = false;
}
tally_served service Unable t = t
tally_served service answer t = record t { is_polled = false }

abbrev pub tally_answered : Asked → Answer → StationTally → StationTally
tally_answered Reset Confirmed t = tally_reset t
tally_answered (Counted fcb service) answer t = tally_served service answer t
tally_answered request answer t = t

-- a request is answered, or isn't
abbrev pub tally_after : Asked → Option Answer → StationTally → StationTally
tally_after request None t = t
tally_after request (Some answer) t = tally_answered request answer t

-- All stations

-- what is counted of each station, and the request that may still be answered
pub record Tallied : Type 0 where
  pub awaited : Option LatestRequest
  pub each : List StationTally

abbrev pub tally_at : List StationTally → ℕ → StationTally
tally_at each i = slice_index_or each i fresh_tally

-- how many reports the station at this place gave
abbrev pub given_at : List Secondary → ℕ → ℕ
given_at stations i = slice_index (map (λ s. s.given) stations) i

abbrev pub sending_of : (ℕ × Asked) → Sending
sending_of sent = record { station = sent.0; request = sent.1 }

-- A request goes out, or octets that are none.
abbrev pub each_asked : Option Sending → List Secondary → List StationTally → List StationTally
each_asked None stations each = each
each_asked (Some s) stations each =
    slice_set each s.station
    (tally_asked s.request (given_at stations s.station) (tally_at each s.station))

abbrev pub awaited_asked : (now : ℕ) → Option Sending → Option LatestRequest → Option LatestRequest
awaited_asked now None awaited = awaited
awaited_asked now (Some s) awaited =
    Some (record { station = s.station; request = s.request; since = now })

-- Octets come: if a request is awaited, what the frame at their front says in answer to it.
abbrev pub answer_in : Setup → LatestRequest → List ℕ → Option Answer
answer_in p a octets =
    option_and_then (answer_of (address_at p.addresses a.station) a.request)
    (whole_of (front_of p.link.size octets))

abbrev pub each_received : Setup → Option LatestRequest → List ℕ → List StationTally
    → List StationTally
each_received p None octets each = each
each_received p (Some a) octets each =
    slice_set each a.station
    (tally_after a.request (answer_in p a octets) (tally_at each a.station))

abbrev pub awaited_received : List ℕ → Option LatestRequest → Option LatestRequest
awaited_received [] awaited = awaited
awaited_received (octet ∷ octets) awaited = None

-- A moment comes: the time to answer may be over.
abbrev pub awaited_timed : (answer_ms now : ℕ) → Option LatestRequest → Option LatestRequest
awaited_timed answer_ms now None = None
awaited_timed answer_ms now (Some a) = if nat_le (a.since + answer_ms) now then None else Some a

-- what octets of the line, and then any event, make of them
abbrev pub tallied_received : Setup → List ℕ → Tallied → Tallied
tallied_received p octets t = record {
  awaited = awaited_received octets t.awaited;
  each = each_received p t.awaited octets t.each;
}

abbrev pub tallied_timed : Setup → (now : ℕ) → Tallied → Tallied
tallied_timed p now t = record t { awaited = awaited_timed p.link.answer_ms now t.awaited }

abbrev pub tallied_at : Setup → (now : ℕ) → Input → Tallied → Tallied
tallied_at p now (LineIn octets) t = tallied_timed p now (tallied_received p octets t)
tallied_at p now event t = tallied_timed p now t

abbrev pub tallied_after : Setup → LogEntry → Tallied → Tallied
tallied_after p (Came now event) t = tallied_at p now event t
tallied_after p (Went now action) t = t

-- what a request makes of them, to stations that stand so
abbrev pub tallied_asked : Setup → (now : ℕ) → List ℕ → List Secondary → Tallied → Tallied
tallied_asked p now octets stations t = record {
  awaited = awaited_asked now (sending_in p octets) t.awaited;
  each = each_asked (sending_in p octets) stations t.each;
}

-- A run

-- an exchange that isn't over may still be answered if no octets came
abbrev pub awaited_with : (octets : List ℕ) → OpenExchange → Option LatestRequest
awaited_with [] x = Some (record { station = x.station; request = x.request; since = x.since })
awaited_with (octet ∷ octets) x = None

-- what may still be answered: the latest exchange, while it is neither closed nor given up, and no
-- octets came
abbrev pub awaited_in : Option OpenExchange → Option LatestRequest
awaited_in None = None
awaited_in (Some x) = if x.closed || x.given_up then None else awaited_with x.octets x

-- what is counted of each station after this log, in which they lived so
abbrev pub tallies_of : (plan : Plan) (log : Log) (answers : List (Option Frame))
    (stations : List Secondary) → AreLived plan log answers stations → List StationTally
tallies_of plan [] answers stations lived = replicate (length plan.stations) fresh_tally
tallies_of plan (Came now (LineIn octets) ∷ log) answers stations lived =
    each_received plan.setup (awaited_in (exchanges_of plan.setup log).current) octets
    (tallies_of plan log answers stations lived)
tallies_of plan (Came now event ∷ log) answers stations lived =
    tallies_of plan log answers stations lived
tallies_of plan (Went now (LineOut octets) ∷ log) [] stations lived = []
tallies_of plan (Went now (LineOut octets) ∷ log) (answer ∷ answers) stations lived =
    each_asked (sending_in plan.setup octets) lived.0
    (tallies_of plan log answers lived.0 lived.2)
tallies_of plan (Went now action ∷ log) answers stations lived =
    tallies_of plan log answers stations lived
