-- What a gateway's state says of the log so far.
use Rattle.std.specs.Prelude.{◌≡◌, ℕ, ◌+◌, ◌%◌, ◌<◌, ◌≤◌, ◌⊎◌, Bool, true, false, cond, List, []}
use Rattle.std.specs.Prelude.{◌∷◌, ◌++◌, length, drop, map, Option, Some, None, IfSome}
use Rattle.std.specs.List.{flat_map, list_all, AllByRecursion}
use Rattle.asdu.specs.InformationObjects.{InformationObject}
use Rattle.apci.specs.declared.apdu.Apdu.{Apdu}
use Rattle.apci.specs.Reading.{IsMore}
use Rattle.link.specs.Matching.{Matches}
use Rattle.session.specs.Session.{Session, is_open, is_transferring, is_from_queue, may_send}
use Rattle.session.specs.Session.{pulled}
use Rattle.session.specs.Runs.{Settings, IsInRange, Call, run}
use Rattle.session.specs.Ends.{IsConfirmed, IsInTime}
use Rattle.session.specs.declared.kinds.Unacknowledged.{Unacknowledged}
use Rattle.gateway.specs.declared.gaps.Gap.{Gap}
use Rattle.gateway.specs.Gaps.{gaps_of, gaps_reported, gap_for}
use Rattle.gateway.specs.Objects.{objects, has_objects}
use Rattle.gateway.specs.Log.{Log, Input, Came, latest}
use Rattle.gateway.specs.Walls.{last_wall}
use Rattle.gateway.specs.Streams.{spelled, AllFit, AreFrames}
use Rattle.gateway.specs.Frames.{Sent, Connection, new_connection, data_frames, transfers, i_frames}
use Rattle.gateway.specs.Frames.{acknowledged_count, objects_of_frames, first_unacknowledged}
use Rattle.gateway.specs.Frames.{reports_among, acknowledged_reports, IsNumberedFrom, AreInOrder}
use Rattle.gateway.specs.Connections.{Channel, no_channel, present, past, received_before}
use Rattle.gateway.specs.Connections.{is_replaced, Passes, AreConnections}
use Rattle.gateway.specs.Reports.{Setup, AreFound, exchanges_of, taken_objects, taken_pieces}
use Rattle.gateway.specs.Reports.{reports_in, parts_of_all}
use Rattle.gateway.specs.Traffic.{ActsRightly, RestsBetweenSteps, HasRested, IsFaithful}
use Rattle.gateway.specs.Course.{Course, here_of, room_in, HasAnswered, NoAnswerLate, Runs}
use Rattle.gateway.specs.Passing.{PassingLaws}
use Rattle.gateway.specs.Conversation.{KeepsRulesThroughout}
use Rattle.gateway.specs.Phases.{Phase, Taking, Idle, Timed, Asked, resting, IsPhase, works_in}
use Rattle.gateway.specs.Phases.{IsAsked, IsPlaced}
use Rattle.gateway.specs.Phases.{IsPast, IsLeftIn}
use Rattle.command.specs.CommandLaws.{CommandLaws}
use Rattle.link.specs.LineLaws.{LineLaws}
use Rattle.session.specs.SessionLaws.{SessionLaws}
use Rattle.gateway.specs.Centre.{Centre}
use Rattle.gateway.specs.State.{State}

-- The line and commands

-- Once the event is taken, what goes out behind its frames has gone out. Once the request is asked
-- for, no answer is late.
abbrev pub IsAnswered : Phase → Setup → Log → Course → Type 0
IsAnswered Idle p log c = HasAnswered p log c
IsAnswered Timed p log c = HasAnswered p log c
IsAnswered Asked p log c = NoAnswerLate p log c
IsAnswered phase p log c = Unit {0}

-- the line's side is that of the works that the log shows, as far as the step is
pub record IsAt (p : Setup) (log : Log) (phase : Phase) (s : State) (c : Course) : Type 0 where
  pub does : s.serial ≡ (works_in phase (latest log) (room_in p log c) c.works).serial
  pub asks : IsAsked phase (latest log) (room_in p log c) c.works
  pub phase_is : IsPhase phase log
  pub placed : IsPlaced phase log c.works.history
  pub answered : IsAnswered phase p log c

-- the gaps that were reported, and the one that is still to be reported, are those of the exchanges
abbrev pub GapsReported : Setup → Log → Option Gap → Type 0
GapsReported p log gap = (station : ℕ) → gaps_reported station log ++ gap_for station gap
    ≡ gaps_of p station log

-- own answers have no objects of the queue's
abbrev pub ArePlain : List (List ℕ) → Type 0
ArePlain answers = AllByRecursion (λ answer. has_objects answer ≡ false) answers

-- The connection

-- the ASDUs of those that have monitor objects
abbrev pub pieces_of : List Sent → List (List ℕ)
pieces_of [] = []
pieces_of (f ∷ fs) = cond (has_objects f.asdu) (f.asdu ∷ pieces_of fs) (pieces_of fs)

-- The sent frames behind the first n are those that aren't acknowledged, and the pieces are the
-- reports among them.
pub record Unconfirmed (n : ℕ) (sent : List Sent) (us : List Unacknowledged)
    (pieces : List (List ℕ)) : Type 0 where
  pub count : n + length us ≡ length sent
  pub kinds : map (λ u. is_from_queue u.kind) us ≡ map (λ f. has_objects f.asdu) (drop n sent)
  pub pieces_are : pieces ≡ pieces_of (drop n sent)

-- the session counts the connection's frames
pub record Tied (c : Connection) (s : Session) (pieces : List (List ℕ)) : Type 0 where
  pub transferring : is_transferring s ≡ transfers c.received_frames
  pub received : s.next_received ≡ i_frames c.received_frames % 32768
  pub next : s.next_sent ≡ length c.sent_frames % 32768
  pub small : s.k < 32768
  pub bound : length s.unacknowledged ≤ s.k
  pub unconfirmed : Unconfirmed
      (acknowledged_count c.received_frames) c.sent_frames s.unacknowledged pieces

-- The control centre's side agrees with the open connection, as if of its octets the last ones had
-- not been received: the step has not judged them yet. Without a connection nothing is sent and
-- nothing received.
pub record Presently (s : Centre) (octets : Channel) (unjudged : List ℕ)
    (c : Connection) : Type 0 where
  pub link : is_open s.session ≡ octets.is_open
  pub none : octets.is_open ≡ false → (octets ≡ no_channel) × (c ≡ new_connection)
  pub put : List Apdu
  pub handed : AreFrames octets.sent put
  pub sent : c.sent_frames ≡ data_frames put
  pub so_far : List ℕ
  pub assembler : s.so_far ≡ Some so_far
  -- no whole frame waits to be taken
  pub taken : s.arrived ≡ None
  pub waits : IsMore so_far
  pub joined : octets.received ≡ spelled c.received_frames ++ (so_far ++ unjudged)
  pub fit : AllFit c.received_frames
  pub pass : Passes (length c.sent_frames) c.received_frames
  pub tied : Tied c s.session s.queue.sent
  pub numbered : IsNumberedFrom 0 c.sent_frames

-- The queue

-- What was taken: acknowledged on earlier connections, sent on this one, and unsent; and so piece
-- by piece, octet by octet. Each piece has a place until it is acknowledged.
pub record Carries (objs : List InformationObject) (parts : ℕ) (all : List (List ℕ))
    (earlier : List Connection) (sent : List Sent) (unsent : List (List ℕ)) : Type 0 where
  pub whole : list_all has_objects unsent ≡ true
  pub gone : List InformationObject
  pub front : length gone ≡ first_unacknowledged earlier
  pub joined : objs ≡ gone ++ (objects_of_frames sent ++ flat_map objects unsent)
  pub count : parts ≡ acknowledged_reports earlier + (reports_among sent + length unsent)
  pub gone_pieces : List (List ℕ)
  pub gone_count : length gone_pieces ≡ acknowledged_reports earlier
  pub spelled : all ≡ gone_pieces ++ (pieces_of sent ++ unsent)

-- settings that a session can have
pub record IsTimely (p : Settings) : Type 0 where
  pub range : IsInRange p
  pub patient : 0 < p.t1

-- The past

-- what holds of the log so far
pub record Past (p : Setup) (log : Log) (earlier : List Connection) : Type 0 where
  pub are : AreConnections (past log) earlier
  pub orders : AreInOrder (taken_objects p log) earlier
  pub times : KeepsRulesThroughout p log
  pub acts : ActsRightly p log
  pub rests : RestsBetweenSteps p log

-- The session

-- The course is the log's, and the session is what the calls of its history made it.
pub record Talks (p : Setup) (s : Session) (log : Log) (c : Course) : Type 0 where
  pub timely : IsTimely p.session
  pub laws : SessionLaws
  pub command_laws : CommandLaws
  pub passing_laws : PassingLaws
  pub line_laws : LineLaws
  pub calls : List Call
  pub called : run p.session calls ≡ record { session = s; history = c.talk }
  pub course_runs : Runs p log c

-- the octets of a frame that isn't whole
abbrev pub pending : Option (List ℕ) → List ℕ
pending None = []
pending (Some octets) = octets

-- The state agrees with the log, as if these octets of the open connection had not come yet, so far
-- in a step.
pub record Agrees (p : Setup) (s : State) (log : Log) (unjudged : List ℕ)
    (phase : Phase) : Type 0 where
  pub k : s.centre.session.k ≡ p.session.k
  pub sizes : s.sizes ≡ p.sizes
  pub places : s.centre.queue.places ≡ p.places
  pub clock : s.moment ≡ latest log
  pub wall : s.wall ≡ last_wall log
  pub settled : is_replaced log ≡ false
  pub found : AreFound p.addresses
  pub line : Matches p.link p.addresses s.serial.line (exchanges_of p log)
  pub course : Course
  pub here : Presently s.centre (present log) unjudged (here_of course)
  pub left : IsLeftIn phase log (pending s.centre.so_far) unjudged
  pub talk : Talks p s.centre.session log course
  pub stands : IsAt p log phase s course
  pub gaps : GapsReported p log s.serial.gap
  pub plain : ArePlain s.serial.commands.answers
  pub carries : Carries (taken_objects p log) (parts_of_all p.sizes (reports_in p log))
      (taken_pieces p log) course.earlier course.sent s.centre.queue.unsent
  pub before : Past p log course.earlier

-- the same if the port gives its log
abbrev pub Tracks : Setup → State → Option Log → List ℕ → Phase → Type 0
Tracks p s logged unjudged phase = IfSome logged (λ log. Agrees p s log unjudged phase)

-- nothing can be sent any more
abbrev pub IsSpent : State → Type 0
IsSpent s = may_send s.centre.session ≡ true →
    (s.centre.queue.unsent ≡ []) × (s.serial.commands.answers ≡ [])

-- no confirmation is due, and nothing can be sent any more
pub record IsClear (s : State) : Type 0 where
  pub confirmed : IsConfirmed s.centre.session
  pub spent : IsSpent s

-- no frame of the event is taken yet, or no S frame and no test is due
abbrev pub IsUndue : State → Log → List ℕ → Type 0
IsUndue s log unjudged =
    (length (present log).received
    ≤ length (received_before log) + length (pending s.centre.so_far ++ unjudged))
    ⊎ ((pulled s.moment s.centre.session).0 ≡ None)

-- the same when all that may go out has gone out, and these octets of the event are to be judged
abbrev pub Awaits : Setup → State → Option Log → List ℕ → Type 0
Awaits p s logged unjudged = IfSome logged (λ log. Agrees p s log unjudged Taking × IsClear s
    × IsUndue s log unjudged
    × (length (received_before log) + length unjudged ≤ length (present log).received))

-- the same when a frame stands before this rest of them
abbrev pub Meets : Setup → State → Option Log → (unjudged rest : List ℕ) → Type 0
Meets p s logged unjudged rest = IfSome logged (λ log. Agrees p s log unjudged Taking × IsClear s
    × IsUndue s log unjudged × IsPast log (length rest))

-- what is left of the log by a call that puts actions out: all of it went out, or the log is
-- faithful so far
abbrev pub Leaves : Bool → Setup → State → Option Log → List ℕ → Phase → Type 0
Leaves true p s logged unjudged phase = Tracks p s logged unjudged phase
Leaves false p s logged unjudged phase = IfSome logged (IsFaithful p)

-- between steps
abbrev pub Follows : Setup → State → Option Log → Type 0
Follows p s logged = IfSome logged (λ log. Agrees p s log [] (resting log) × IsClear s)

-- the log ends with this event, and before it the state agreed with the log and had done all that
-- it could
pub record HasCome (p : Setup) (s : State) (now : ℕ) (event : Input) (log : Log) : Type 0 where
  pub before : Log
  pub is : log ≡ Came now event ∷ before
  pub agrees : Agrees p s before [] (resting before)
  pub clear : IsClear s
  pub rested : HasRested p before

-- a step has done all that it could
abbrev pub Rests : Setup → Option Log → Type 0
Rests p logged = IfSome logged (HasRested p)

-- nothing is due on the connection, and no answer is late
pub record IsQuiet (s : State) : Type 0 where
  pub confirmed : IsConfirmed s.centre.session
  pub pulled_all : (pulled s.moment s.centre.session).0 ≡ None
  pub in_time : IsInTime s.moment s.centre.session

-- if no answer was late, none is late
abbrev pub StaysInTime : (before after : State) → Type 0
StaysInTime s t = 0 < s.centre.session.t1 → IsInTime s.moment s.centre.session →
    IsInTime t.moment t.centre.session × (0 < t.centre.session.t1)
