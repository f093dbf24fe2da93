-- The definitions, computed on a line with one station: link address 1, common address 1, one octet
-- each for
-- link address, cause and
-- common address, two for object addresses. All octets are written by hand.
use Rattle.std.proofs.Common.{◌≡◌, ℕ, true, false, List, [], ◌∷◌, map, inl, inr, Some, None, refl}
use Rattle.std.proofs.Common.{arith, ◌++◌, sym, subst}
use Rattle.ft12.specs.declared.frame.LinkSize.TheVariants as sizes_of_link
use Rattle.ft12.specs.declared.frame.Frame.TheVariants.{Single, Fixed}
use Rattle.ft12.specs.Fronts.{front_of}
use Rattle.apci.specs.declared.apdu.Apdu.TheVariants.{I, S, U}
use Rattle.apci.specs.declared.apdu.Uf.TheVariants.{StartAct}
use Rattle.asdu.specs.declared.sizes.CauseSize.TheVariants as causes
use Rattle.asdu.specs.declared.sizes.CaSize.TheVariants as cas
use Rattle.asdu.specs.declared.sizes.IoaSize.TheVariants as ioas
use Rattle.link.specs.declared.service.Asked.TheVariants.{Status}
use Rattle.link.specs.Outstation.{Turn, Accepted as Done}
use Rattle.link.specs.Delivery.{Session}
use Rattle.command.specs.History.{History, HistoryEntry, Judged, Sent, Accepted, Refused, GivenUp}
use Rattle.command.specs.History.{Ended}
use Rattle.gateway.specs.Log.{Log, Came, Went, Opened, CutOff, TcpIn, LineIn, LineOut, Ticked}
use Rattle.gateway.specs.Log.{WallIs, Restarted}
use Rattle.gateway.specs.Frames.{Connection, new_connection}
use Rattle.gateway.specs.Reports.{Setup, AreFound, exchanges_with}
use Rattle.delivery.specs.Merges.{IsSublist}
use Rattle.delivery.specs.Delivery.{before_sessions, sessions_of}
use Rattle.delivery.specs.Commands.{LineStep, Begun, Confirmed, Busy, Lost, steps_in}
use Rattle.delivery.specs.Commands.{first_sendings, steps_logged, sent_to, forwarded_in, as_judged}
use Rattle.delivery.specs.Commands.{on_line_of, AreCommandsOf, unmissed}
use Rattle.delivery.specs.Selections.{AreAt, LogsAtMoments}
use Rattle.delivery.specs.Arrivals.{Arrival, arrivals, arrivals_by, ShowsAt}

abbrev example : Setup
example = record {
  link = record { size = sizes_of_link.One; answer_ms = 100; retries = 1; hold = true; burst = 3 };
  addresses = 1 ∷ [];
  sizes = record { cause = causes.One; ca = cas.One; ioa = ioas.Two };
  places = 10;
  session = record { k = 12; w = 8; t1 = 15000; t2 = 10000; t3 = 20000 };
  stations = record { ca = 1; select = false } ∷ [];
  select_ms = 30000;
  max_age_ms = 10000;
}

-- A single command on (type 45, activation) to object 10 of station 1: as it comes from the control
-- centre,
-- and as it goes to the line

abbrev from_centre : List ℕ
from_centre = 45 ∷ 1 ∷ 6 ∷ 0 ∷ 1 ∷ 0 ∷ 10 ∷ 0 ∷ 0 ∷ 1 ∷ []

abbrev to_line : List ℕ
to_line = 45 ∷ 1 ∷ 6 ∷ 1 ∷ 10 ∷ 0 ∷ 1 ∷ []

in_line_sizes : on_line_of example 0 from_centre ≡ to_line
in_line_sizes = refl

-- the same with a time tag (type 58) goes to the line without it
without_tag : on_line_of example 0 (58 ∷ 1 ∷ 6 ∷ 0 ∷ 1 ∷ 0 ∷ 10 ∷ 0 ∷ 0 ∷ 1 ∷ 0 ∷ 0 ∷ 30 ∷ 12 ∷ 24
    ∷ 11 ∷ 25 ∷ [])
    ≡ to_line
without_tag = refl

-- and a set point (type 48) with its three octets
set_point : on_line_of example 0 (61 ∷ 1 ∷ 6 ∷ 0 ∷ 1 ∷ 0 ∷ 10 ∷ 0 ∷ 0 ∷ 7 ∷ 8 ∷ 9 ∷ 0 ∷ 0 ∷ 30 ∷ 12
    ∷ 24 ∷ 11 ∷ 25
    ∷ []) ≡ 48 ∷ 1 ∷ 6 ∷ 1 ∷ 10 ∷ 0 ∷ 7 ∷ 8 ∷ 9 ∷ []
set_point = refl

-- an interrogation to the global address goes to the line with the station's own
own_address : on_line_of example 0 (100 ∷ 1 ∷ 6 ∷ 0 ∷ 255 ∷ 255 ∷ 0 ∷ 0 ∷ 0 ∷ 20 ∷ [])
    ≡ 100 ∷ 1 ∷ 6 ∷ 1 ∷ 0 ∷ 0 ∷ 20
    ∷ []
own_address = refl

-- in the largest sizes: a test with originator 9 and a tag, to the station with common address
-- 0x1234
in_wide_sizes : on_line_of (record example {
  sizes = record { cause = causes.Two; ca = cas.Two; ioa = ioas.Three };
  stations = record { ca = 0x1234; select = false } ∷ [];
}) 0 (58 ∷ 1 ∷ 0x86 ∷ 9 ∷ 0xFF ∷ 0xFF ∷ 1 ∷ 2 ∷ 3 ∷ 0x81 ∷ 0 ∷ 0 ∷ 30 ∷ 12 ∷ 24 ∷ 11 ∷ 25 ∷ [])
    ≡ 45 ∷ 1 ∷ 0x86 ∷ 9 ∷ 0x34 ∷ 0x12 ∷ 1 ∷ 2 ∷ 3 ∷ 0x81 ∷ []
in_wide_sizes = refl

-- The line: status, reset, and the command with FCB 1

abbrev status : List ℕ
status = 0x10 ∷ 0x49 ∷ 0x01 ∷ 0x4A ∷ 0x16 ∷ []

abbrev ready : List ℕ
ready = 0x10 ∷ 0x0B ∷ 0x01 ∷ 0x0C ∷ 0x16 ∷ []

abbrev reset : List ℕ
reset = 0x10 ∷ 0x40 ∷ 0x01 ∷ 0x41 ∷ 0x16 ∷ []

abbrev confirm : List ℕ
confirm = 0x10 ∷ 0x00 ∷ 0x01 ∷ 0x01 ∷ 0x16 ∷ []

abbrev command : List ℕ
command = 0x68 ∷ 0x09 ∷ 0x09 ∷ 0x68 ∷ 0x73 ∷ 0x01 ∷ 0x2D ∷ 0x01 ∷ 0x06 ∷ 0x01 ∷ 0x0A ∷ 0x00 ∷ 0x01
    ∷ 0xB4 ∷ 0x16 ∷ []

abbrev started : Log
started = Came 20 (LineIn confirm) ∷ Went 10 (LineOut reset) ∷ Came 10 (LineIn ready)
    ∷ Went 0 (LineOut status)
    ∷ Came 0 Ticked ∷ []

abbrev put : Log
put = Went 20 (LineOut command) ∷ started

abbrev steps : Log → List LineStep
steps log = steps_in example.link 1 unmissed None (exchanges_with example 0 log)

-- nothing is said of a command before it goes out
none_yet : steps started ≡ []
unfolding front_of
none_yet = refl

is_put : steps put ≡ Begun to_line ∷ []
unfolding front_of
is_put = refl

-- the single character confirms it
confirmed_shortly : steps (Came 30 (LineIn (0xE5 ∷ [])) ∷ put) ≡ Begun to_line ∷ Confirmed to_line
    ∷ []
unfolding front_of
confirmed_shortly = refl

-- function 0 does, in two pieces, and function 1 says that the link is busy
confirmed_in_pieces : steps (Came 40 (LineIn (0x01 ∷ 0x01 ∷ 0x16 ∷ []))
    ∷ Came 30 (LineIn (0x10 ∷ 0x00 ∷ [])) ∷ put)
    ≡ Begun to_line ∷ Confirmed to_line ∷ []
unfolding front_of
confirmed_in_pieces = refl

found_busy : steps (Came 30 (LineIn (0x10 ∷ 0x01 ∷ 0x01 ∷ 0x02 ∷ 0x16 ∷ [])) ∷ put)
    ≡ Begun to_line ∷ Busy to_line ∷ []
unfolding front_of
found_busy = refl

-- neither another station's answer nor a primary's frame nor one that comes too late says anything
another_station : steps (Came 30 (LineIn (0x10 ∷ 0x00 ∷ 0x02 ∷ 0x02 ∷ 0x16 ∷ [])) ∷ put)
    ≡ Begun to_line ∷ []
unfolding front_of
another_station = refl

a_primary : steps (Came 30 (LineIn (0x10 ∷ 0x40 ∷ 0x01 ∷ 0x41 ∷ 0x16 ∷ [])) ∷ put)
    ≡ Begun to_line ∷ []
unfolding front_of
a_primary = refl

too_late : steps (Came 130 (LineIn confirm) ∷ Came 120 Ticked ∷ put) ≡ Begun to_line ∷ []
unfolding front_of
too_late = refl

-- the repeat of an unanswered command is no first sending
one_command : steps (Came 130 (LineIn confirm) ∷ Went 120 (LineOut command) ∷ Came 120 Ticked ∷ put)
    ≡ Begun to_line
    ∷ Confirmed to_line ∷ []
unfolding front_of
one_command = refl

-- but after a new start of the link (the station answered 14) the same octets are another command
abbrev started_again : Log
started_again = Came 50 (LineIn confirm) ∷ Went 40 (LineOut reset) ∷ Came 40 (LineIn ready)
    ∷ Went 30 (LineOut status)
    ∷ Came 30 (LineIn (0x10 ∷ 0x0E ∷ 0x01 ∷ 0x0F ∷ 0x16 ∷ [])) ∷ put

two_commands : first_sendings 1 None
    (exchanges_with example 0 (Went 50 (LineOut command) ∷ started_again)) ≡ to_line
    ∷ to_line ∷ []
unfolding front_of
two_commands = refl

-- that answer takes the link down, function 15 does, and function 9 (no data) is none to a command
answered_14 : steps started_again ≡ Begun to_line ∷ Lost ∷ []
unfolding front_of
answered_14 = refl

answered_15 : steps (Came 30 (LineIn (0x10 ∷ 0x0F ∷ 0x01 ∷ 0x10 ∷ 0x16 ∷ [])) ∷ put)
    ≡ Begun to_line ∷ Lost ∷ []
unfolding front_of
answered_15 = refl

answered_9 : steps (Came 30 (LineIn (0x10 ∷ 0x09 ∷ 0x01 ∷ 0x0A ∷ 0x16 ∷ [])) ∷ put)
    ≡ Begun to_line ∷ []
unfolding front_of
answered_9 = refl

-- one sending without an answer is none too many with one repeat, two are, at their last moment and
-- not before
abbrev steps_of_reset : Log → List LineStep
steps_of_reset log =
    steps_in (record {
      size = sizes_of_link.One;
      answer_ms = 100;
      retries = 1;
      hold = false;
      burst =
          3;
    }) 1 unmissed None
    (exchanges_with example 0 log)

abbrev sent_again : Log
sent_again = Went 120 (LineOut command) ∷ Came 120 Ticked ∷ put

silent_once : steps_of_reset (Came 219 Ticked ∷ sent_again) ≡ Begun to_line ∷ []
unfolding front_of
silent_once = refl

silent_twice : steps_of_reset (Came 220 Ticked ∷ sent_again) ≡ Begun to_line ∷ Lost ∷ []
unfolding front_of
silent_twice = refl

-- an answer between them counts anew
answered_between : steps_of_reset (Came 330 Ticked ∷ Went 230 (LineOut command)
    ∷ Came 230 (LineIn (0xE5 ∷ []))
    ∷ sent_again) ≡ Begun to_line ∷ Confirmed to_line ∷ Begun to_line ∷ []
unfolding front_of
answered_between = refl

-- if the service is held instead, silence takes no link down
held_back : steps (Came 320 Ticked ∷ Went 220 (LineOut command) ∷ Came 220 Ticked ∷ sent_again)
    ≡ Begun to_line ∷ []
unfolding front_of
held_back = refl

-- A restart gives up a command without an answer, and what comes behind it says nothing more.
given_up : steps (Came 25 Restarted ∷ put) ≡ Begun to_line ∷ Lost ∷ []
unfolding front_of
given_up = refl

answered_behind : steps (Came 30 (LineIn (0xE5 ∷ [])) ∷ Came 25 Restarted ∷ put)
    ≡ Begun to_line ∷ Lost ∷ []
unfolding front_of
answered_behind = refl

-- and one that was answered before is none
answered_before : steps (Came 35 Restarted ∷ Came 30 (LineIn (0xE5 ∷ [])) ∷ put)
    ≡ Begun to_line ∷ Confirmed to_line ∷ []
unfolding front_of
answered_before = refl

-- Sessions: the status alone is before the first one

abbrev turns : List Turn
turns = record { answer = Some (Fixed 0x0B 1); done = [] }
    ∷ record { answer = Some (Fixed 0x00 1); done = [] }
    ∷ record { answer = Some Single; done = Done to_line ∷ [] } ∷ []

before_is : (before_sessions example (Came 30 (LineIn (0xE5 ∷ [])) ∷ put) 0 turns).exchanges
    ≡ record { request = Status; front = Some (Fixed 0x0B 1); closed = false; given_up = false }
    ∷ []
unfolding front_of
before_is = refl

session_is : map (λ (s : Session). s.turns)
    (sessions_of example (Came 30 (LineIn (0xE5 ∷ [])) ∷ put) 0 turns)
    ≡ (record { answer = Some (Fixed 0x00 1); done = [] } ∷ record {
      answer = Some Single;
      done =
          Done to_line ∷ [];
    }
    ∷ []) ∷ []
unfolding front_of
session_is = refl

-- What the course logs

abbrev logged : History
logged = Refused 0 None ∷ Sent 0 (2 ∷ []) ∷ Sent 1 (3 ∷ []) ∷ Ended ∷ Accepted 0 ∷ Sent 0 (1 ∷ [])
    ∷ []

logged_of_first : steps_logged 0 logged ≡ Begun (1 ∷ []) ∷ Confirmed (1 ∷ []) ∷ Begun (2 ∷ [])
    ∷ Busy (2 ∷ []) ∷ []
logged_of_first = refl

-- what is given up is logged for its own station alone
logged_lost : steps_logged 0 (GivenUp 1 true ∷ GivenUp 0 true ∷ Sent 0 (1 ∷ []) ∷ [])
    ≡ Begun (1 ∷ []) ∷ Lost ∷ []
logged_lost = refl

logged_of_second : steps_logged 1 logged ≡ Begun (3 ∷ []) ∷ []
logged_of_second = refl

-- An ASDU is logged with the moment of its entry of the log, and with no other.
at_its_moment : LogsAtMoments (Came 9 Ticked ∷ Came 5 (TcpIn []) ∷ [])
    (Judged 5 None from_centre None ∷ [])
at_its_moment = (
  [],
  Judged 5 None from_centre None ∷ [],
  refl,
  tt,
  (Judged 5 None from_centre None ∷ [], [], refl, (refl, tt), tt),
)

not_before_it : LogsAtMoments (Came 9 Ticked ∷ []) (Judged 5 None from_centre None ∷ []) → ⊥
not_before_it h = go h.0 h.1 h.2 h.3 h.4
  where
    go : (new older : History) → Judged 5 None from_centre None ∷ [] ≡ new ++ older → AreAt 9 new
        → AreAt 0 older → ⊥
    go [] older e is all = let then_0 : AreAt 0 (Judged 5 None from_centre None ∷ []) =
        subst (AreAt 0) (sym e) all in
        let no : 5 ≡ 0 = then_0.0 in cc
    go (x ∷ new) older e is all =
        let same : x ≡ Judged 5 None from_centre None = cc in
        let then_9 : AreAt 9 (Judged 5 None from_centre None ∷ new) =
        subst (λ (y : HistoryEntry). AreAt 9 (y ∷ new)) same is in
        let no : 5 ≡ 9 = then_9.0 in cc

sent_to_first : sent_to 0 logged ≡ (1 ∷ []) ∷ (2 ∷ []) ∷ []
sent_to_first = refl

-- what is answered isn't forwarded, nor what is for another station
forwarded_alone : forwarded_in example 0
    (Judged 3 None (45 ∷ 1 ∷ 6 ∷ 0 ∷ 2 ∷ 0 ∷ 10 ∷ 0 ∷ 0 ∷ 1 ∷ []) None
    ∷ Judged 2 None from_centre None ∷ Judged 1 None from_centre (Some []) ∷ [])
    ≡ (from_centre, None) ∷ []
forwarded_alone = refl

-- From the control centre: the ASDUs of all connections, the oldest first

abbrev first_connection : Connection
first_connection = record {
  sent_frames = [];
  received_frames = I 0 0 (record { items = 1 ∷ [] })
      ∷ U StartAct ∷ [];
}

abbrev second_connection : Connection
second_connection = record {
  sent_frames = [];
  received_frames =
      I 1 0 (record { items = 3 ∷ [] }) ∷ S 0 ∷ I 0 0 (record { items = 2 ∷ [] }) ∷ U StartAct ∷ [];
}

received_in_order : map (λ (x : Arrival). x.asdu)
    (arrivals_by (second_connection ∷ first_connection ∷ []) ([] ∷ []
    ∷ [])) ≡ (1 ∷ []) ∷ (2 ∷ []) ∷ (3 ∷ []) ∷ []
received_in_order = refl

-- A frame comes in two pieces, and the wall clock is given between them: the frame came with its
-- last octet, and the ASDU after that wall moment.

abbrev in_pieces : Log
in_pieces = Came 3 (TcpIn (0 ∷ 1 ∷ [])) ∷ Came 2 (WallIs 500)
    ∷ Came 1 (TcpIn (0x68 ∷ 5 ∷ 0 ∷ 0 ∷ 0 ∷ []))
    ∷ Came 0 Opened ∷ []

abbrev with_one : Connection
with_one = record { sent_frames = []; received_frames = I 0 0 (record { items = 1 ∷ [] }) ∷ [] }

came_whole : arrivals (Came 4 Ticked ∷ in_pieces) (with_one ∷ [])
    ≡ record { asdu = 1 ∷ []; log = in_pieces } ∷ []
came_whole = refl

came_then : map as_judged (arrivals (Came 9 (WallIs 7) ∷ in_pieces) (with_one ∷ []))
    ≡ (1 ∷ [], Some 501) ∷ []
came_then = refl

-- on a connection that is over now, too
came_before : arrivals (Came 5 CutOff ∷ in_pieces) (new_connection ∷ with_one ∷ [])
    ≡ record { asdu = 1 ∷ []; log = in_pieces } ∷ []
came_before = refl

-- the wall clock shows what the latest event says, and not what one before it said
shows_latest : ShowsAt (Came 4 (WallIs 9) ∷ in_pieces) 5 10
shows_latest = record {
  since = [];
  now = 4;
  number = 9;
  before = in_pieces;
  logged = refl;
  latest_logged = tt;
  shows =
      refl;
}

-- one of two is some of them, but neither one twice nor two in another order
one_of_two : IsSublist {A = ℕ} (2 ∷ []) (1 ∷ 2 ∷ [])
one_of_two = inr (inl (refl, tt))

not_twice : IsSublist {A = ℕ} (1 ∷ 1 ∷ []) (1 ∷ []) → ⊥
not_twice (inl h) = h.1
not_twice (inr h) = h

not_turned : IsSublist {A = ℕ} (2 ∷ 1 ∷ []) (1 ∷ 2 ∷ []) → ⊥
not_turned (inl h) = cc
not_turned (inr (inl h)) = h.1
not_turned (inr (inr h)) = h

-- a command is none of the centre's if none came, and one is not two
not_invented : AreCommandsOf example 0 [] (to_line ∷ []) → ⊥
not_invented h = go h.given h.received h.whole
  where
    go : (given : List Arrival) → IsSublist given [] → to_line ∷ []
        ≡ map (λ (x : Arrival). on_line_of example 0 x.asdu) given → ⊥
    go [] part whole = cc
    go (x ∷ given) part whole = part

abbrev one_came : Arrival
one_came = record { asdu = from_centre; log = in_pieces }

is_given : AreCommandsOf example 0 (one_came ∷ []) (to_line ∷ [])
is_given = record {
  given = one_came ∷ [];
  received = inl (refl, tt);
  each =
      (record { addressed = refl; faultless = refl; fresh = λ tagged active. cc }, tt);
  whole = refl;
}

not_given_twice : AreCommandsOf example 0 (one_came ∷ []) (to_line ∷ to_line ∷ []) → ⊥
not_given_twice h = go h.given h.received h.whole
  where
    go : (given : List Arrival) → IsSublist given (one_came ∷ [])
        → to_line ∷ to_line ∷ [] ≡ map (λ (x : Arrival). on_line_of example 0 x.asdu) given → ⊥
    go [] part whole = cc
    go (x ∷ []) part whole = cc
    go (x ∷ (y ∷ given)) (inl h) whole = h.1
    go (x ∷ (y ∷ given)) (inr h) whole = h

-- stations with one address aren't distinguished
not_found : AreFound (5 ∷ 5 ∷ []) → ⊥
not_found h = absurd (omega (arith, one_place 0 1 (h 1 (omega arith))))
  where
    one_place : (n m : ℕ) → Some n ≡ Some m → n ≡ m
    one_place n m e = cc
