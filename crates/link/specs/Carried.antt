-- What a restart makes of a primary station (this gateway's own profile).
use Rattle.std.specs.Prelude.{ℕ, zero, suc, ◌==◌, ◌&&◌, ◌||◌, min, Bool, true, false, List, length}
use Rattle.std.specs.Prelude.{map, slice_set, Option, Some, None, if◌then◌else◌}
use Rattle.ft12.specs.declared.frame.Front.{Front}
use Rattle.link.specs.Answers.{Asked, Counted}
use Rattle.link.specs.Exchanges.{Exchanges, given_up_at}
use Rattle.link.specs.Flags.{link_at}
use Rattle.link.specs.Procedure.{LinkSettings, Link, Down, Available, Next, Held, holds_command}
use Rattle.link.specs.Procedure.{after_silence, Never, short_silence}
use Rattle.link.specs.Turns.{StationState, Starting, Over, station_at}
use Rattle.link.specs.Primary.{Primary, Outstanding, is_sending_command, station_down}
use Rattle.link.specs.declared.seat.ResumedStation.{ResumedStation}

-- ---- Commands without an answer

-- The latest service to the station is a command without an answer: it is on the line, or held.
abbrev pub awaits_command : Primary → (station : ℕ) → Bool
awaits_command p station =
    holds_command (station_at p.stations station).link
    || ((p.turn == station) && is_sending_command p.outstanding)

-- the link to the station is down, so that it is reset before the next service
abbrev pub station_given_up : StationState → StationState
station_given_up s = record {
  address = s.address;
  link = Down;
  acd = s.acd;
  dfc = s.dfc;
  session = s.session;
  unsure = s.unsure;
}

-- The link to the station is given up. An exchange with it is over, and so is its turn.
abbrev pub given_up : (station : ℕ) → Primary → Primary
given_up station p = record p {
  stations =
      slice_set p.stations station (station_given_up (station_at p.stations station));
  phase = if p.turn == station then Over else p.phase;
  again = if p.turn == station then false else p.again;
  outstanding = if p.turn == station then None else p.outstanding;
}

-- if its latest service is a command without an answer
abbrev pub command_given_up : (station : ℕ) → Primary → Primary
command_given_up station p = if awaits_command p station then given_up station p else p

-- the same for so many stations, from the first on
abbrev pub commands_given_up_upto : (count : ℕ) → Primary → Primary
commands_given_up_upto zero p = p
commands_given_up_upto (suc k) p = command_given_up k (commands_given_up_upto k p)

-- for all stations
abbrev pub without_commands : Primary → Primary
without_commands p = commands_given_up_upto (length p.stations) p

-- By the exchanges of the line, the latest service to the station is a command without an answer.
abbrev pub awaits_command_in : LinkSettings → (front : List ℕ → Front) → (addresses : List ℕ) →
    (station : ℕ) → Exchanges → Bool
awaits_command_in settings front addresses station e =
    holds_command (link_at settings front addresses station e)

-- Its link is given up then,
abbrev pub command_given_up_in : LinkSettings → (front : List ℕ → Front) → (addresses : List ℕ) →
    (station : ℕ) → Exchanges → Exchanges
command_given_up_in settings front addresses station e =
    if awaits_command_in settings front addresses station e then given_up_at station e else e

-- so it is at so many stations, from the first on,
abbrev pub given_up_upto : LinkSettings → (front : List ℕ → Front) → (addresses : List ℕ) →
    (count : ℕ) → Exchanges → Exchanges
given_up_upto settings front addresses zero e = e
given_up_upto settings front addresses (suc k) e =
    command_given_up_in settings front addresses k (given_up_upto settings front addresses k e)

-- and at all of them.
abbrev pub commands_given_up : LinkSettings → (front : List ℕ → Front) → (addresses : List ℕ) →
    Exchanges → Exchanges
commands_given_up settings front addresses e =
    given_up_upto settings front addresses (length addresses) e

-- ---- Stations that may have been restarted

abbrev pub station_doubted : StationState → StationState
station_doubted s = record {
  address = s.address;
  link = s.link;
  acd = s.acd;
  dfc = s.dfc;
  session = s.session;
  unsure = true;
}

-- Of no station is it known whether it was restarted, until it answers a service.
abbrev pub doubted : Primary → Primary
doubted p = record p { stations = map station_doubted p.stations }

-- ---- A line of other stations

-- a service without an answer so far is held
abbrev pub station_left : LinkSettings → StationState → Asked → StationState
station_left settings s request = record {
  address = s.address;
  link = after_silence settings request false s.link;
  acd = s.acd;
  dfc = s.dfc;
  session = s.session;
  unsure = s.unsure;
}

abbrev pub released_from : Primary → Option Outstanding → Primary
released_from p None = p
released_from p (Some o) = record p {
  stations =
      slice_set p.stations p.turn
      (station_left p.settings (station_at p.stations p.turn) o.request);
  outstanding = None;
}

-- An exchange that is outstanding is broken off: its service is held, to be sent again with its
-- frame count bit.
abbrev pub released : Primary → Primary
released p = released_from p p.outstanding

abbrev pub with_gap_mark : StationState → StationState
with_gap_mark s = record {
  address = s.address;
  link = s.link;
  acd = s.acd;
  dfc = s.dfc;
  session = record { number = s.session.number; has_gap = true };
  unsure = s.unsure;
}

-- Of the station's latest session a report may be lost.
abbrev pub gap_marked : (station : ℕ) → Primary → Primary
gap_marked station p = record p {
  stations = slice_set p.stations station (with_gap_mark (station_at p.stations station));
}

-- a held service wasn't unanswered more often than it is repeated
abbrev pub link_carried : (retries : ℕ) → Link → Link
link_carried retries (Held fcb service silence) =
    Held fcb service (short_silence (min retries silence.missed) Never)
link_carried retries link = link

-- The station goes on: its link, what its latest answer showed, its session, and whether it is
-- unsure.
abbrev pub station_carried : (retries address : ℕ) → StationState → StationState
station_carried retries address s = record {
  address = address;
  link = link_carried retries s.link;
  acd = s.acd;
  dfc = s.dfc;
  session = s.session;
  unsure = s.unsure;
}

-- with the place that the station had, if it had one
abbrev pub seated : (retries address : ℕ) → List StationState → Option ℕ → StationState
seated retries address stations None = station_down address
seated retries address stations (Some k) = station_carried retries address (station_at stations k)

-- A line with these settings and stations: each goes on that was there before, the others are new.
-- The first turn is the first station's, and nothing is outstanding.
abbrev pub reseated : LinkSettings → List ResumedStation → Primary → Primary
reseated settings seats p = record {
  settings = settings;
  stations =
      map (λ (s : ResumedStation). seated settings.retries s.address p.stations s.before) seats;
  turn = 0;
  phase = Starting;
  again = false;
  outstanding = None;
  spoilt = p.spoilt;
}

-- ---- What a station that goes on keeps

-- the frame count bit of the next service, or of the one without an answer, if the link is up
abbrev pub bit_of : Link → Option Bool
bit_of Down = None
bit_of Available = None
bit_of (Next fcb) = Some fcb
bit_of (Held fcb service silence) = Some fcb

-- the service without an answer that the link holds
abbrev pub service_of : Link → Option Asked
service_of (Held fcb service silence) = Some (Counted fcb service)
service_of link = None
