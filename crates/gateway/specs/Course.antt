-- The course of a run, as its log shows it: what was said on the open connection, what the
-- connections before it were, the line's primary station and what became of commands (IEC
-- 60870-5-104, 5; IEC 60870-5-2, unbalanced transmission procedures; when a step takes a frame and
-- whose turn it is, is this gateway's own profile).
use Rattle.std.specs.Prelude.{◌≡◌, ℕ, ◌+◌, ◌<◌, ◌≤◌, ◌⊎◌, Bool, true, false, not, nat_lt}
use Rattle.std.specs.Prelude.{if◌then◌else◌, List, [], ◌∷◌, ◌++◌, length, take, drop, Some, None}
use Rattle.std.specs.Prelude.{Option}
use Rattle.ft12.specs.Spelling as line
use Rattle.apci.specs.declared.apdu.Apdu.{Apdu}
use Rattle.apci.specs.declared.apdu.Apdu.TheVariants.{I}
use Rattle.apci.specs.Spelling.{spelling, Fits}
use Rattle.apci.specs.Reading.{IsMore}
use Rattle.link.specs.Exchanges.{Sending}
use Rattle.link.specs.Requests.{request_frame}
use Rattle.session.specs.declared.kinds.Close.{Close}
use Rattle.session.specs.declared.kinds.Close.TheVariants.{Timeout, OwnAnswers, Replaced}
use Rattle.session.specs.declared.kinds.FrameOrigin.{FrameOrigin}
use Rattle.session.specs.declared.kinds.FrameOrigin.TheVariants.{Queue, Own}
use Rattle.session.specs.History as talk
use Rattle.session.specs.History.{History, is_started, still_unacknowledged, confirmation_of}
use Rattle.session.specs.History.{frame_due, has_timed_out}
use Rattle.session.specs.Rules.{KeepsRules}
use Rattle.command.specs.State.{first_answer}
use Rattle.gateway.specs.Objects.{objects, has_objects}
use Rattle.gateway.specs.Log.{Log, Input, LineIn, Opened, TcpIn, CutOff, Ticked, WallIs, Restarted}
use Rattle.gateway.specs.Log.{Came, Went, LineOut, TcpOut, Closed, GapOut, latest}
use Rattle.gateway.specs.Walls.{wall_on}
use Rattle.gateway.specs.Streams.{spelled}
use Rattle.gateway.specs.Frames.{Sent, Connection, transfers, first_unacknowledged}
use Rattle.gateway.specs.Frames.{monitor_objects_sent, acknowledged_reports, reports_among}
use Rattle.gateway.specs.Connections.{Channel, present, received_before, is_replaced, IsConnection}
use Rattle.gateway.specs.Reports.{Setup, address_at, reports_in, parts_of_all, taken_objects}
use Rattle.gateway.specs.Reports.{taken_pieces}
use Rattle.gateway.specs.Serial.{answer_outcome, next_request}
use Rattle.gateway.specs.Works.{Works, first_works, has_lacked_place, LearnsOf, received_works}
use Rattle.gateway.specs.Works.{sent_works, cut_works, octets_works, begun_works, settled_works}
use Rattle.gateway.specs.Works.{gapless_works, asked_works, done_works, restarted_works}

pub record Course : Type 0 where
  -- what was said on the open connection: frames that came and frames that went out, each with its
  -- moment, the latest first; within a step the log leaves open where a frame that came stands
  -- among those that went out (docs/DECISIONS.md, "The history of a connection")
  pub talk : History
  -- its I frames that went out, the oldest first
  pub sent : List Sent
  -- the connections before it, the latest first
  pub earlier : List Connection
  pub works : Works

abbrev pub first_course : Setup → Course
first_course p = record { talk = []; sent = []; earlier = []; works = first_works p }

-- the frames that came, the latest first
abbrev pub came_frames : History → List Apdu
came_frames [] = []
came_frames (talk.Came frame now ∷ older) = frame ∷ came_frames older
came_frames (_ ∷ older) = came_frames older

-- the open connection
abbrev pub here_of : Course → Connection
here_of c = record { sent_frames = c.sent; received_frames = came_frames c.talk }

-- There are places for the pieces of any report: each piece of a report taken has one until it is
-- acknowledged.
abbrev pub has_places : Setup → (parts : ℕ) → List Connection → Bool
has_places p parts connections =
    not (nat_lt (p.places + acknowledged_reports connections) (parts + 3))

abbrev pub room_in : Setup → Log → Course → Bool
room_in p log c = has_places p (parts_of_all p.sizes (reports_in p log)) (here_of c ∷ c.earlier)

-- What is left to be sent

-- how many of the objects taken have gone out: those acknowledged on earlier connections, and those
-- sent on the open one
abbrev pub sent_objects : Course → ℕ
sent_objects c = first_unacknowledged c.earlier + length (monitor_objects_sent (here_of c))

-- how many pieces: those acknowledged on earlier connections, and those sent on the open one
abbrev pub sent_pieces : Course → ℕ
sent_pieces c = acknowledged_reports c.earlier + reports_among c.sent

-- All objects taken and all own answers have gone out.
pub record HasSentAll (p : Setup) (log : Log) (c : Course) : Type 0 where
  pub objects : sent_objects c ≡ length (taken_objects p log)
  pub answers : c.works.serial.commands.answers ≡ []

-- if data transfer runs and fewer than k I frames are unacknowledged, all has gone out (5.3, 5.5)
abbrev pub IsFlushed : Setup → Log → Course → Type 0
IsFlushed p log c = is_started c.talk ≡ true → length (still_unacknowledged c.talk) < p.session.k →
    HasSentAll p log c

-- Frames that come

-- none of the frames that end in the latest event's octets is taken yet
abbrev pub IsUntouched : Log → Course → Type 0
IsUntouched log c = length (spelled (came_frames c.talk)) ≤ length (received_before log)

-- all whole frames of the octets received are taken
pub record HasTakenAll (octets : Channel) (h : History) : Type 0 where
  pub rest : List ℕ
  pub joined : octets.received ≡ spelled (came_frames h) ++ rest
  pub more : IsMore rest

-- one of them is taken
abbrev pub IsTouched : Log → Course → Type 0
IsTouched log c = length (received_before log) < length (spelled (came_frames c.talk))

-- one of them is taken, or there are none
abbrev pub HasBegun : Log → Course → Type 0
HasBegun log c = IsTouched log c ⊎ HasTakenAll (present log) c.talk

-- no S frame and no test is due (5.2, 5.5)
abbrev pub NoFrameDue : Setup → (now : ℕ) → Course → Type 0
NoFrameDue p now c = frame_due p.session.w p.session.t2 p.session.t3 now c.talk ≡ None

-- Nothing may go out to TCP: no confirmation, no data, no S frame and no test (5.1 to 5.3).
pub record HasNothingDue (p : Setup) (log : Log) (c : Course) : Type 0 where
  pub confirmed : confirmation_of c.talk ≡ None
  pub flushed : IsFlushed p log c
  pub undue : NoFrameDue p (latest log) c

-- If a frame of the event is taken, what goes out behind it has gone out (profile).
abbrev pub HasAnswered : Setup → Log → Course → Type 0
HasAnswered p log c = IsUntouched log c ⊎ HasNothingDue p log c

-- no answer is late (5.2)
abbrev pub NoAnswerLate : Setup → Log → Course → Type 0
NoAnswerLate p log c = has_timed_out p.session.t1 (latest log) c.talk ≡ false

-- The step has done what comes before the connection's frames: its gap is reported, no answer is
-- late, and the line's request has gone out, or there is none (profile).
pub record HasAsked (p : Setup) (log : Log) (c : Course) : Type 0 where
  pub logged : c.works.serial.gap ≡ None
  pub in_time : NoAnswerLate p log c
  pub none : c.works.is_due ≡ true →
      next_request (room_in p log c) (settled_works (latest log) c.works).serial ≡ None

abbrev pub with_frame : Setup → Apdu → (now : ℕ) → (wall : Option ℕ) → Course → Course
with_frame p frame now wall c =
    record {
      talk = talk.Came frame now ∷ c.talk;
      sent = c.sent;
      earlier = c.earlier;
      works = received_works frame now wall c.works;
    }

-- frames come at a moment, the latest first
abbrev pub with_frames : Setup → List Apdu → (now : ℕ) → (wall : Option ℕ) → Course → Course
with_frames p [] now wall c = c
with_frames p (frame ∷ frames) now wall c =
    with_frame p frame now wall (with_frames p frames now wall c)

-- A frame is taken if it is the next of the octets received, and comes without fault once all
-- confirmations are out (5.1, 5.3). It is taken only if each own answer found a place, and all that
-- may go out has gone out. What the moment of the event makes due goes out behind its first frame
-- (profile).
pub record MayTake (p : Setup) (log : Log) (now : ℕ) (frame : Apdu) (c : Course) : Type 0 where
  pub fits : Fits frame
  pub rest : List ℕ
  pub joined : (present log).received ≡ spelled (frame ∷ came_frames c.talk) ++ rest
  pub rules : KeepsRules p.session (talk.Came frame now ∷ c.talk)
  pub placed : has_lacked_place c.works.history ≡ false
  pub flushed : IsFlushed p log c
  pub undue : IsUntouched log c ⊎ NoFrameDue p now c

-- each of these frames, the latest first
abbrev pub AreTaken : Setup → Log → (now : ℕ) → List Apdu → Course → Type 0
AreTaken p log now [] c = Unit {0}
AreTaken p log now (frame ∷ older) c =
    MayTake p log now frame (with_frames p older now (wall_on log now) c)
    × AreTaken p log now older c

-- Frames are taken, one after another, of the octets received.
pub record TakesFrames (p : Setup) (log : Log) (now : ℕ) (before after : Course) : Type 0 where
  pub frames : List Apdu
  pub taken : after ≡ with_frames p frames now (wall_on log now) before
  pub each : AreTaken p log now frames before
  pub rest : List ℕ
  pub joined : (present log).received ≡ spelled (came_frames after.talk) ++ rest

-- Frames that go out

-- an ASDU with monitor objects is the queue's, any other an own answer
abbrev pub kind_of : List ℕ → FrameOrigin
kind_of asdu = if has_objects asdu then Queue else Own

-- what is said when a frame goes out
abbrev pub logged_sent : Apdu → (now : ℕ) → History → History
logged_sent (I ns nr asdu) now h = talk.Sent ns nr (kind_of asdu.items) now ∷ h
logged_sent frame now h = talk.Went frame now ∷ h

abbrev pub more_sent : Apdu → List Sent → List Sent
more_sent (I ns nr asdu) sent = sent ++ record { ns = ns; nr = nr; asdu = asdu.items } ∷ []
more_sent frame sent = sent

abbrev pub with_sent : Apdu → (now : ℕ) → Course → Course
with_sent frame now c =
    record {
      talk = logged_sent frame now c.talk;
      sent = more_sent frame c.sent;
      earlier = c.earlier;
      works = sent_works frame c.works;
    }

-- An I frame goes out once all confirmations are out. It bears the next of the objects taken, and
-- is the next of the pieces of reports, octet by octet, once no own answer waits; or it is the
-- oldest own answer (5.3; profile).
pub record IsNextData (p : Setup) (log : Log) (asdu : List ℕ) (c : Course) : Type 0 where
  pub confirmed : confirmation_of c.talk ≡ None
  pub own : has_objects asdu ≡ false → first_answer c.works.serial.commands.answers ≡ Some asdu
  pub none : has_objects asdu ≡ true → c.works.serial.commands.answers ≡ []
  pub report : has_objects asdu ≡ true → objects asdu
      ≡ take (length (objects asdu)) (drop (sent_objects c) (taken_objects p log))
  pub piece : has_objects asdu ≡ true →
      take 1 (drop (sent_pieces c) (taken_pieces p log)) ≡ asdu ∷ []

-- An S frame or a test goes out once all other frames that may have gone out, since an I frame
-- bears N(R) too, and behind the first frame of the event; but for a confirmation (5.1, 5.3;
-- profile).
abbrev pub IsNext : Setup → Log → Apdu → Course → Type 0
IsNext p log (I ns nr asdu) c = IsNextData p log asdu.items c
IsNext p log frame c = (confirmation_of c.talk ≡ Some frame)
    ⊎ ((confirmation_of c.talk ≡ None) × IsFlushed p log c × HasBegun log c)

-- These octets go out: one frame, the next one, by the rules of 5.1 to 5.5; and none once an own
-- answer found no place. They go out behind a frame of the event, or once the step's gap is
-- reported, its timers are done and its request has gone out (profile).
pub record HandsOver (p : Setup) (log : Log) (octets : List ℕ) (now : ℕ)
    (before after : Course) : Type 0 where
  pub frame : Apdu
  pub fits : Fits frame
  pub spelled_so : octets ≡ spelling frame
  pub rules : KeepsRules p.session (logged_sent frame now before.talk)
  pub next : IsNext p log frame before
  pub placed : has_lacked_place before.works.history ≡ false
  pub turn : IsTouched log before ⊎ HasAsked p log before
  pub put : after ≡ with_sent frame now before

-- The ends of connections

-- What is next in the octets received closes the connection with this cause. All before it was
-- taken and confirmed (5.1, 5.3), and what may go out has gone out. If a frame of the event was
-- taken, what the moment makes due has gone out too. Each own answer found a place.
pub record StandsNext (p : Setup) (log : Log) (cause : Close) (c : Course) : Type 0 where
  pub next : IsConnection (present log) (here_of c) (Some cause)
  pub confirmed : confirmation_of c.talk ≡ None
  pub flushed : IsFlushed p log c
  pub undue : IsUntouched log c ⊎ NoFrameDue p (latest log) c
  pub placed : has_lacked_place c.works.history ≡ false

-- An I frame or a test has been without an answer for t1 (5.2), and no cause stands before it: all
-- that came was taken without fault and answered, each own answer found a place, and the gap of the
-- event is reported.
pub record IsLate (p : Setup) (log : Log) (c : Course) : Type 0 where
  pub all : HasTakenAll (present log) c.talk
  pub answered : HasAnswered p log c
  pub placed : has_lacked_place c.works.history ≡ false
  pub logged : c.works.serial.gap ≡ None
  pub late : has_timed_out p.session.t1 (latest log) c.talk ≡ true

-- Why a connection is closed when the course has come so far. An answer is late. Or the own answer
-- of the frame taken last, or of the line's octets, found no place. Or it is what is next in the
-- octets. The connection before an `Open` has ended with it.
abbrev pub IsCause : Setup → Log → Close → Course → Type 0
IsCause p log Replaced c = is_replaced log ≡ true
IsCause p log Timeout c = IsLate p log c
IsCause p log OwnAnswers c = has_lacked_place c.works.history ≡ true
IsCause p log cause c = StandsNext p log cause c

-- the connection that was open, if any, is over
abbrev pub ended_course : (is_open : Bool) → Works → Course → Course
ended_course is_open w c =
    record {
      talk = [];
      sent = [];
      earlier = if is_open then here_of c ∷ c.earlier else c.earlier;
      works = cut_works w;
    }

abbrev pub opened_course : (now : ℕ) → Course → Course
opened_course now c =
    record { talk = talk.Opened now ∷ []; sent = c.sent; earlier = c.earlier; works = c.works }

-- if an answer was late, the step's timers come first
abbrev pub works_at : Close → (at : ℕ) → Works → Works
works_at Timeout at w = settled_works at w
works_at cause at w = w

abbrev pub closed_course : Setup → Close → (is_open : Bool) → (at : ℕ) → Course → Course
closed_course p Replaced is_open at c = c
closed_course p cause is_open at c = ended_course is_open (works_at cause at c.works) c

-- Steps

-- What the step before leaves when an event comes: its timers are done, its gap is reported, and no
-- request is left that may go out. A turn that has none ends.
pub record IsLeft (p : Setup) (log : Log) (before after : Course) : Type 0 where
  pub logged : before.works.serial.gap ≡ None
  pub none : before.works.is_due ≡ true →
      next_request (room_in p log before) (settled_works (latest log) before.works).serial ≡ None
  pub is : after ≡ record {
    talk = before.talk;
    sent = before.sent;
    earlier = before.earlier;
    works = done_works (latest log) (room_in p log before) before.works;
  }

abbrev pub with_works : Works → Course → Course
with_works w c = record { talk = c.talk; sent = c.sent; earlier = c.earlier; works = w }

-- What an event brings. A restart stands between two steps, at the moment of the one before. It
-- ends
-- the connection as a cut does, and nothing is due behind it.
abbrev pub Comes : Setup → Log → (at : ℕ) → Input → (before after : Course) → Type 0
Comes p log at (LineIn octets) c d =
    (z : Works)
    × LearnsOf p at (transfers (came_frames c.talk)) (answer_outcome octets c.works.serial)
    (octets_works octets c.works) z
    × (d ≡ with_works (begun_works at z) c)
Comes p log at (TcpIn octets) c d =
    TakesFrames p (Came at (TcpIn octets) ∷ log) at (with_works (begun_works at c.works) c) d
Comes p log at Ticked c d = d ≡ with_works (begun_works at c.works) c
Comes p log at (WallIs number) c d = d ≡ with_works (begun_works at c.works) c
Comes p log at Opened c d = d
    ≡ opened_course at (ended_course (present log).is_open (begun_works at c.works) c)
Comes p log at CutOff c d = d ≡ ended_course (present log).is_open (begun_works at c.works) c
Comes p log at Restarted c d = (at ≡ latest log)
    × (d ≡ ended_course (present log).is_open (restarted_works c.works) c)

-- The gap of the session that the event's octets have ended is reported, once all that came is
-- taken and answered, and each own answer found a place, and before the step's timers and its
-- request.
pub record ReportsGap (p : Setup) (log : Log) (station session : ℕ)
    (before after : Course) : Type 0 where
  pub all : HasTakenAll (present log) before.talk
  pub answered : HasAnswered p log before
  pub placed : (present log).is_open ≡ true → has_lacked_place before.works.history ≡ false
  pub due : before.works.is_due ≡ true
  pub gap : before.works.serial.gap ≡ Some (record { station = station; session = session })
  pub is : after ≡ with_works (gapless_works before.works) before

-- The octets are the request that is next, if the queue has the room that the log shows. It comes
-- once the gap is reported and all that came is taken and answered, and if no answer is late.
pub record SendsNext (p : Setup) (log : Log) (octets : List ℕ)
    (before after : Course) : Type 0 where
  pub all : HasTakenAll (present log) before.talk
  pub answered : HasAnswered p log before
  pub in_time : NoAnswerLate p log before
  pub placed : (present log).is_open ≡ true → has_lacked_place before.works.history ≡ false
  pub due : before.works.is_due ≡ true
  pub logged : before.works.serial.gap ≡ None
  pub request : Sending
  -- the one that the turns give, as the line's machine has it: there are no shorter words
  -- (docs/DECISIONS.md, "Requests by the turns")
  pub next : next_request (room_in p log before) (settled_works (latest log) before.works).serial
      ≡ Some request
  pub spelled_so : octets ≡ line.spelling p.link.size
      (request_frame (address_at p.addresses request.station) request.request)
  pub is : after
      ≡ with_works (asked_works (latest log) (room_in p log before) request
      (settled_works (latest log) before.works)) before

-- The course that the log shows. When an event comes all whole frames received before are taken,
-- and the step before has done what was due. Frames are taken of an event's octets, before and
-- between the frames that go out in its step. A connection is closed when the cause stands, before
-- the step's request.
abbrev pub Runs : Setup → Log → Course → Type 0
Runs p [] c = c ≡ first_course p
Runs p (Came now event ∷ log) c =
    (before : Course) × (left : Course) × Runs p log before × HasTakenAll (present log) before.talk
    × IsLeft p log before left × Comes p log (latest (Came now event ∷ log)) event left c
Runs p (Went now (TcpOut octets) ∷ log) c =
    (before : Course) × (after : Course) × Runs p log before
    × HandsOver p log octets (latest log) before after
    × TakesFrames p (Went now (TcpOut octets) ∷ log) (latest log) after c
Runs p (Went now (LineOut octets) ∷ log) c = (before : Course) × Runs p log before
    × SendsNext p log octets before c
Runs p (Went now (GapOut station session) ∷ log) c = (before : Course) × Runs p log before
    × ReportsGap p log station session before c
Runs p (Went now (Closed cause) ∷ log) c =
    (before : Course) × Runs p log before × (c
    ≡ closed_course p cause (present log).is_open (latest log) before)
    × IsCause p log cause before × (before.works.is_due ≡ true)
