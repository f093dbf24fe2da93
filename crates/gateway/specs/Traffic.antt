-- What holds of every log of a gateway.
use Rattle.std.specs.Prelude.{◌≡◌, ℕ, ◌+◌, ◌<◌, Bool, true, false, List, [], ◌∷◌, length}
use Rattle.ft12.specs.Spelling.{spelling}
use Rattle.link.specs.declared.service.Asked.{Asked}
use Rattle.link.specs.Requests.{request_frame}
use Rattle.session.specs.declared.kinds.Close.{Close}
use Rattle.session.specs.declared.kinds.Close.TheVariants.{Replaced}
use Rattle.gateway.specs.Log.{Log, Restarted, Came, Went, Output, LineOut, TcpOut, Closed, GapOut}
use Rattle.gateway.specs.Log.{latest}
use Rattle.gateway.specs.Gaps.{gaps_of, gaps_reported, ReportsGaps}
use Rattle.gateway.specs.Streams.{IsOneFrame}
use Rattle.gateway.specs.Behind.{IsEarly}
use Rattle.gateway.specs.Frames.{transfers, acknowledged_count, AreInOrder}
use Rattle.gateway.specs.Connections.{present, past, ends, is_replaced, AreConnections, IsBegun}
use Rattle.gateway.specs.Reports.{Setup, address_at, taken_objects, KeepsLinks}
use Rattle.link.specs.Leave.{is_poll_request}
use Rattle.gateway.specs.Room.{AreConnectionsOf, HasRoom}
use Rattle.gateway.specs.Works.{has_lacked_place}
use Rattle.gateway.specs.Course.{Course, here_of, HasSentAll, HasAsked, IsCause, Runs}
use Rattle.gateway.specs.Conversation.{KeepsRulesThroughout, IsTalkAtRest}
use Rattle.gateway.specs.Line.{IsWaiting, IsLineAtRest}

-- The octets are a request to a station, while no exchange is outstanding and each gap is reported.
-- They are a poll only if there is room.
pub record IsRequest (p : Setup) (log : Log) (octets : List ℕ) : Type 0 where
  pub station : ℕ
  pub within : station < length p.addresses
  pub request : Asked
  pub spelled : octets
      ≡ spelling p.link.size (request_frame (address_at p.addresses station) request)
  pub alone : IsWaiting p log → ⊥
  pub logged : ReportsGaps p log
  pub room : is_poll_request request ≡ true → HasRoom p log

-- The connection is open, and its course gives the cause, the first that stands.
abbrev pub HasCause : Setup → Close → Log → Type 0
HasCause p cause log = ends cause ≡ true → ((present log).is_open ≡ true) × ((c : Course)
    × Runs p log c × IsCause p log cause c)

-- The session is the station's next one that ended with a gap. (Between steps each is reported, so
-- the reset was answered in this step; and each is reported before a request, so none went out
-- since.)
abbrev pub IsNextGap : Setup → Log → (station session : ℕ) → Type 0
IsNextGap p log station session = (other : ℕ) →
    gaps_reported other (Went (latest log) (GapOut station session) ∷ log) ≡ gaps_of p other log

-- to the line whole requests, to TCP one APDU at a time while a connection is open, a close with
-- its cause, and a gap once
abbrev pub MayGo : Setup → Log → Output → Type 0
MayGo p log (LineOut octets) = IsRequest p log octets
MayGo p log (TcpOut octets) = ((present log).is_open ≡ true) × IsOneFrame octets
MayGo p log (Closed cause) = HasCause p cause log
MayGo p log (GapOut station session) = IsNextGap p log station session

abbrev pub replaces : Output → Bool
replaces (Closed Replaced) = true
replaces action = false

-- An action goes out at its step's moment, with its reason; and the close of a connection that was
-- replaced, and nothing else, comes right after the `Open`. A gap, a close and a request go out
-- before octets to TCP, but for those behind a frame of the event.
pub record GoesOut (p : Setup) (log : Log) (now : ℕ) (action : Output) : Type 0 where
  pub moment : now ≡ latest log
  pub replaced : replaces action ≡ is_replaced log
  pub early : IsEarly log action
  pub may : MayGo p log action

-- each action of the log
abbrev pub ActsRightly : Setup → Log → Type 0
ActsRightly p [] = Unit {0}
ActsRightly p (Went now action ∷ log) = GoesOut p log now action × ActsRightly p log
ActsRightly p (entry ∷ log) = ActsRightly p log

-- After a step nothing stands on the connection that closes it, and all that may be sent is sent.
-- On the connection, if data transfer is started and the window isn't full, that is all objects and
-- own answers, and each confirmation, S frame and test that is due. On the line it is all but data
-- for which there is no room. And each gap is reported.
pub record IsAtRest (p : Setup) (log : Log) : Type 0 where
  pub course : Course
  pub course_runs : Runs p log course
  pub are : AreConnectionsOf log (here_of course) course.earlier
  pub settled : is_replaced log ≡ false
  pub placed : (present log).is_open ≡ true → has_lacked_place course.works.history ≡ false
  pub eager : (present log).is_open ≡ true → transfers (here_of course).received_frames ≡ true →
      length (here_of course).sent_frames < acknowledged_count (here_of course).received_frames
      + p.session.k → HasSentAll p log course
  pub line : IsLineAtRest p log course (here_of course ∷ course.earlier)
  pub gaps : ReportsGaps p log
  pub asked : HasAsked p log course
  pub talk : IsTalkAtRest p log course

-- Nothing has come yet, or the last step has done all that it could. A restart is no step.
abbrev pub HasRested : Setup → Log → Type 0
HasRested p [] = Unit {0}
HasRested p (Came now Restarted ∷ log) = HasRested p log
HasRested p (entry ∷ log) = IsAtRest p (entry ∷ log)

-- each step had done all that it could when the next event came
abbrev pub RestsBetweenSteps : Setup → Log → Type 0
RestsBetweenSteps p [] = Unit {0}
RestsBetweenSteps p (Came now event ∷ log) = HasRested p log × RestsBetweenSteps p log
RestsBetweenSteps p (Went now action ∷ log) = RestsBetweenSteps p log

-- What holds of every log of a gateway. A log has one course (the law `one_course`), so the courses
-- that its parts speak of are this one and those before it. If the device failed in mid-step,
-- perhaps only the first frames are named here of what the open connection received; `HasRested`
-- names them all.
pub record IsFaithful (p : Setup) (log : Log) : Type 0 where
  -- what the log shows of the connections, of the line and of commands
  pub course : Course
  pub course_runs : Runs p log course
  -- the open connection's frames are those of its octets, so far
  pub begun : IsBegun (present log) (here_of course)
  -- and those of each connection that is over are those of its octets, up to what closed it
  pub are : AreConnections (past log) course.earlier
  -- on each the monitor objects go out in order, from the first on that none before acknowledged
  pub orders : AreInOrder (taken_objects p log) (here_of course ∷ course.earlier)
  -- each station is asked as its link allows
  pub links : KeepsLinks p log
  -- at each point frames and commands kept the rules
  pub times : KeepsRulesThroughout p log
  -- each action went out at its step's moment, for its reason
  pub acts : ActsRightly p log
  -- and each step had done all that it could when the next event came
  pub rests : RestsBetweenSteps p log
