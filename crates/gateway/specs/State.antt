-- What a gateway is to its callers, and what each part of a step makes of it.
use Rattle.std.specs.Prelude.{ℕ, ◌≤◌, ◌≡◌, min, max, true, List, Option, Some, None}
use Rattle.link.specs.Exchanges.{Sending}
use Rattle.link.specs.Primary.{Primary}
use Rattle.link.specs.Leave.{is_polling}
use Rattle.apci.specs.declared.apdu.Apdu.{Apdu}
use Rattle.asdu.specs.declared.sizes.Sizes.{Sizes}
use Rattle.session.specs.Session.{Session}
use Rattle.events.specs.Queue.{Queue, free_places}
use Rattle.gateway.specs.Log.{last_moment}
use Rattle.gateway.specs.Config.{Settings}
use Rattle.gateway.specs.Setups.{setup_of}
use Rattle.gateway.specs.Serial as serial
use Rattle.gateway.specs.Serial.{Serial}
use Rattle.gateway.specs.Centre as centre
use Rattle.gateway.specs.Centre.{Centre}
use Rattle.gateway.specs.declared.walls.Wall.{Wall}
use Rattle.gateway.specs.Walls.{wall_of}
use Rattle.gateway.specs.Polls.{has_room}
use Rattle.gateway.specs.declared.counts.Counts.{Counts}

pub record State : Type 0 where
  pub serial : Serial
  pub centre : Centre
  -- the sizes of the line's ASDUs
  pub sizes : Sizes
  -- the greatest moment so far
  pub moment : ℕ
  -- what the wall clock showed last
  pub wall : Option Wall

-- while a poll is out, or is sent again at once, there are places for the pieces of any report
abbrev pub HasPlaces : Primary → Queue → Type 0
HasPlaces line q = is_polling line ≡ true → 3 ≤ free_places q

-- What is empty between two steps: the silence of the step before is dealt with, its gap is
-- reported, and each whole frame is taken.
pub record IsBetweenSteps (s : State) : Type 0 where
  pub silent : s.serial.silent ≡ None
  pub gap : s.serial.gap ≡ None
  pub arrived : s.centre.arrived ≡ None

-- what `counts` answers
abbrev pub counts_of : State → Counts
counts_of s = record {
  skipped = s.serial.counts.skipped;
  mirrors = s.serial.counts.mirrors;
  lost = s.serial.counts.lost;
  spoilt = s.serial.line.spoilt;
}

abbrev pub first_state : Settings → State
first_state c = record {
  serial = serial.first_serial (setup_of c);
  centre = centre.first_centre (setup_of c).session c.line.queue;
  sizes = c.line.sizes;
  moment = 0;
  wall = None;
}

abbrev pub at_moment : State → ℕ → State
at_moment s now = record s { moment = max s.moment (min now last_moment) }

-- the wall clock shows this now
abbrev pub with_wall : (number : ℕ) → State → State
with_wall number s = record s { wall = Some (record { moment = s.moment; number = number }) }

abbrev pub wall_now : State → Option ℕ
wall_now s = wall_of s.wall s.moment

-- this side becomes that, and nothing else changes
abbrev pub with_serial : Serial → State → State
with_serial t s = record s { serial = t }

abbrev pub with_centre : Centre → State → State
with_centre t s = record s { centre = t }

abbrev pub with_sides : Serial → Centre → State → State
with_sides t d s = record s { serial = t; centre = d }

abbrev pub with_session : Session → State → State
with_session t s = record s { centre = record s.centre { session = t } }

-- with these octets of a frame that isn't whole, and none that is
abbrev pub with_octets : Option (List ℕ) → State → State
with_octets so_far s = record s { centre = record s.centre { so_far = so_far; arrived = None } }

-- no connection
abbrev pub disconnected : State → State
disconnected s = record s { serial = serial.cut s.serial; centre = centre.closed s.centre }

abbrev pub connected : State → State
connected s = record s { centre = centre.opened s.moment s.centre }

-- a frame is taken
abbrev pub received : Apdu → State → State
received f s = record s { centre = centre.taken f s.moment s.centre }

-- a frame without fault is taken, and its ASDU judged
abbrev pub framed : Apdu → State → State
framed f s =
    record s {
      serial = serial.judged f s.moment (wall_now s) s.serial;
      centre = centre.taken f s.moment s.centre;
    }

-- the oldest unsent piece has gone out
abbrev pub piece_sent : State → State
piece_sent s = record s { centre = centre.piece_sent s.moment s.centre }

-- the oldest own answer has gone out
abbrev pub own_sent : State → State
own_sent s =
    record s { serial = serial.answered s.serial; centre = centre.own_sent s.moment s.centre }

-- the time to answer
abbrev pub line_timed : State → State
line_timed s = record s { serial = serial.timed s.moment s.serial }

-- the timers of commands
abbrev pub settled : State → State
settled s = record s { serial = serial.settled s.moment s.serial }

-- a request, if one is next, goes out
abbrev pub after_request : State → Option Sending → State
after_request s next =
    record s { serial = serial.asked s.moment (has_room s.centre.queue) next s.serial }
