-- What the parts of a step make of a gateway.
use Rattle.std.specs.Prelude.{◌≡◌, ℕ, ◌⊎◌, Bool, true, false, List, [], ◌∷◌, length, Option, Some}
use Rattle.std.specs.Prelude.{None}
use Rattle.std.specs.List.{flat_map, list_all, AllByRecursion}
use Rattle.asdu.specs.declared.sizes.Sizes.{Sizes}
use Rattle.asdu.specs.Asdu.{AsduValue}
use Rattle.link.specs.declared.outcome.Outcome.{Outcome}
use Rattle.link.specs.declared.outcome.Outcome.TheVariants as outcome
use Rattle.apci.specs.declared.apdu.Apdu.{Apdu}
use Rattle.apci.specs.Spelling.{spelling, Fits}
use Rattle.session.specs.declared.kinds.Close.{Close}
use Rattle.session.specs.declared.kinds.Close.TheVariants.{Timeout, OwnAnswers}
use Rattle.session.specs.declared.kinds.Taken.TheVariants as taken
use Rattle.session.specs.Session.{may_send, is_open, is_transferring, outcome_of, is_close}
use Rattle.command.specs.State.{first_answer}
use Rattle.command.specs.Mirrors.{tag_for}
use Rattle.gateway.specs.Tags.{AreTagged}
use Rattle.gateway.specs.Objects.{objects, has_objects, monitor_objects, parts_of, pieces_of_report}
use Rattle.gateway.specs.Log.{Log, Input, LineIn}
use Rattle.gateway.specs.Connections.{ends, present, closed_by, IsConnection}
use Rattle.gateway.specs.Course.{here_of, IsCause}
use Rattle.gateway.specs.Reports.{Setup}
use Rattle.gateway.specs.Serial.{Serial, accepted, given_up, refused, refusal_fits, mirrored}
use Rattle.gateway.specs.Serial.{mirror_fits, with_gap, reported, answered, has_place, arrived}
use Rattle.gateway.specs.Serial.{answer_outcome}
use Rattle.gateway.specs.Centre.{Centre, pushed, next_frame, piece_sent, own_sent}
use Rattle.gateway.specs.Works.{is_command_report, IsPassedOn}
use Rattle.gateway.specs.State.{State, with_serial, with_centre, with_sides, wall_now, at_moment}
use Rattle.gateway.specs.State.{line_timed, received as frame_received, framed, disconnected}
use Rattle.gateway.specs.Agrees.{Agrees}
use Rattle.gateway.specs.Phases.{Phase, Taking, Idle, Crowded, Timed}

-- the pieces of a report are kept, or it is counted
pub record Keeps (s : State) (report : List ℕ) (t : State) : Type 0 where
  pub pieces : List (List ℕ)
  pub objects_are : flat_map objects pieces ≡ monitor_objects s.sizes report
  pub whole : list_all has_objects pieces ≡ true
  pub number : length pieces ≡ parts_of s.sizes report
  pub spelled : pieces ≡ pieces_of_report s.sizes report
  pub after : t
      ≡ record s { serial = reported s.sizes report s.serial; centre = pushed pieces s.centre }

-- a station's answer to a command, whose pieces are passed on if data transfer runs
pub record Mirrors (sizes : Sizes) (at : ℕ) (transferring : Bool) (s : Serial) (report : List ℕ)
    (fits : Bool) (t : Serial) : Type 0 where
  pub v : AsduValue
  pub plain : List (List ℕ)
  pub pieces : List (List ℕ)
  pub passed : IsPassedOn sizes v report plain
  -- with the tag, if it came with one, of the command that it answers
  pub tagged : AreTagged (tag_for v v.infos s.commands) plain pieces
  -- neither it nor any of them has an object of the queue's
  pub none : monitor_objects sizes report ≡ []
  pub unmonitored : AllByRecursion (λ piece. has_objects piece ≡ false) pieces
  pub after : t ≡ mirrored at transferring v pieces s
  pub all : fits ≡ mirror_fits at transferring v pieces s

abbrev pub LearnsReport : (is_of_command : Bool) → State → List ℕ → (fits : Bool) → State → Type 0
LearnsReport true s report fits t =
    Mirrors s.sizes s.moment (is_transferring s.centre.session) s.serial report fits t.serial
    × (t ≡ with_serial t.serial s)
LearnsReport false s report fits t = Keeps s report t × (fits ≡ true)

-- what comes of an exchange, and whether each own answer finds a place
abbrev pub Learns : State → Outcome → (fits : Bool) → State → Type 0
Learns s (outcome.Report station asdu) fits t =
    LearnsReport (is_command_report s.sizes asdu.items) s asdu.items fits t
Learns s (outcome.Accepted station) fits t = (t ≡ with_serial (accepted station s.serial) s)
    × (fits ≡ true)
Learns s (outcome.Busy station) fits t = (t ≡ with_serial (refused station s.serial) s)
    × (fits ≡ refusal_fits station s.serial)
Learns s (outcome.Down station) fits t = (t ≡ with_serial (given_up station s.serial) s)
    × (fits ≡ true)
Learns s (outcome.StartedGap station session) fits t = (t
    ≡ with_serial (with_gap station session s.serial) s) × (fits ≡ true)
Learns s other fits t = (t ≡ s) × (fits ≡ true)

-- octets of the line came, and what they bring is kept
abbrev pub Receives : State → List ℕ → (fits : Bool) → State → Type 0
Receives s octets fits t =
    Learns (with_serial (arrived octets s.serial) s) (answer_outcome octets s.serial) fits t

-- the line's part of an event
abbrev pub ReceivesEvent : State → Input → (fits : Bool) → State → Type 0
ReceivesEvent s (LineIn octets) fits t = Receives s octets fits t
ReceivesEvent s event fits t = (t ≡ s) × (fits ≡ true)

-- The line's part of a step: the moment, the event's octets, and the time to answer.
pub record Begins (s : State) (now : ℕ) (event : Input) (fits : Bool) (t : State) : Type 0 where
  pub middle : State
  pub receives : ReceivesEvent (at_moment s now) event fits middle
  pub times : t ≡ line_timed middle

-- a frame has a fault
pub record IsFaulty (s : State) (f : Apdu) (cause : Close) (t : State) : Type 0 where
  pub fault : taken.Close cause ≡ outcome_of s.centre.session f
  pub after : t ≡ frame_received f s

-- a frame is taken, and its own answer, if it has one, finds a place or not
pub record IsTaken (s : State) (f : Apdu) (fits : Bool) (t : State) : Type 0 where
  pub passes : is_close (outcome_of s.centre.session f) ≡ false
  pub place : has_place f s.moment (wall_now s) s.serial.commands ≡ fits
  pub after : t ≡ framed f s

-- A frame is taken, or the connection is to be closed.
abbrev pub Judged : State → Apdu → Option Close → State → Type 0
Judged s f None t = IsTaken s f true t
Judged s f (Some cause) t = IsFaulty s f cause t ⊎ ((cause ≡ OwnAnswers) × IsTaken s f false t)

-- the oldest unsent piece goes out in this frame
pub record SendsPiece (at : ℕ) (s : Centre) (f : Apdu) (t : Centre) : Type 0 where
  pub may : may_send s.session ≡ true
  pub asdu : List ℕ
  pub rest : List (List ℕ)
  pub first : s.queue.unsent ≡ asdu ∷ rest
  pub frame : f ≡ next_frame s.session asdu
  pub fits : Fits f
  pub after : t ≡ piece_sent at s

-- the oldest own answer goes out in this frame
pub record SendsOwn (at : ℕ) (s : Serial) (c : Centre) (f : Apdu) (t : Serial)
    (d : Centre) : Type 0 where
  pub may : may_send c.session ≡ true
  pub asdu : List ℕ
  pub first : first_answer s.commands.answers ≡ Some asdu
  pub frame : f ≡ next_frame c.session asdu
  pub fits : Fits f
  pub fewer : t ≡ answered s
  pub sent : d ≡ own_sent at c

-- own answers go out before the queue's pieces
abbrev pub SendsData : State → Apdu → State → Type 0
SendsData s f t =
    (SendsOwn s.moment s.serial s.centre f t.serial t.centre × (t ≡ with_sides t.serial t.centre s))
    ⊎ ((s.serial.commands.answers ≡ []) × SendsPiece s.moment s.centre f t.centre
    × (t ≡ with_centre t.centre s))

-- the octets are a frame of which this holds
pub record SpellFrame (Holds : Apdu → Type 0) (octets : List ℕ) : Type 0 where
  pub frame : Apdu
  pub holds : Holds frame
  pub spelled : octets ≡ spelling frame

-- An answer is late when the timers are done, an own answer finds no place when it is kept, and any
-- other cause shows as octets are taken.
abbrev pub IsCloseAt : Close → Phase → Type 0
IsCloseAt Timeout Timed = Unit {0}
IsCloseAt Timeout phase = ⊥
IsCloseAt OwnAnswers Crowded = Unit {0}
IsCloseAt OwnAnswers phase = ⊥
IsCloseAt cause Taking = Unit {0}
IsCloseAt cause phase = ⊥

-- how far a step is when it has closed the connection
abbrev pub after_closing : Phase → Phase
after_closing Taking = Idle
after_closing Crowded = Idle
after_closing phase = phase

-- The cause to close the connection is there. The state that agrees with the log may differ from
-- this one in what the close drops.
pub record MayClose (p : Setup) (s : State) (cause : Close) (later : Phase)
    (log : Log) : Type 0 where
  pub last : ends cause ≡ true
  pub state : State
  pub same : disconnected s ≡ disconnected state
  pub open_is : is_open state.centre.session ≡ true
  pub unjudged : List ℕ
  pub phase : Phase
  pub leads : after_closing phase ≡ later
  pub timely : IsCloseAt cause phase
  pub agrees : Agrees p state log unjudged phase
  pub fault : Option Close
  pub stands : IsConnection (closed_by cause (present log)) (here_of agrees.course) fault
  pub why : IsCause p log cause agrees.course
