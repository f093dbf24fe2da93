-- What the control centre is sent, seen from the outstations: the end that the frame count bit (IEC
-- 60870-5-2, unbalanced transmission procedures) and the window (IEC 60870-5-104, 5.1) serve.
use Rattle.std.specs.Prelude.{◌≡◌, ℕ, ◌<◌, false, List, [], ◌∷◌, length, None}
use Rattle.std.specs.List.{flat_map}
use Rattle.asdu.specs.declared.sizes.Sizes.{Sizes}
use Rattle.asdu.specs.InformationObjects.{InformationObject}
use Rattle.link.specs.Procedure as link
use Rattle.link.specs.declared.procedure.Link.TheVariants.{Down}
use Rattle.link.specs.Outstation.{Turn, all_done}
use Rattle.link.specs.Delivery as outstation
use Rattle.link.specs.Delivery.{Session, before_reset, sessions, learnt, reports, commands}
use Rattle.link.specs.Delivery.{IsAllOrButLast, IsLatestAnswered, sendings_not_busy}
use Rattle.link.specs.Delivery.{is_command_pending, pending_after}
use Rattle.gateway.specs.Log.{Log, Came, Restarted}
use Rattle.gateway.specs.Objects.{monitor_objects}
use Rattle.gateway.specs.Reports.{Setup, address_at, exchanges_with, reports_in, taken_objects}
use Rattle.gateway.specs.Frames.{AreInOrder}
use Rattle.gateway.specs.Course.{Course, here_of, Runs}
use Rattle.gateway.specs.Connections.{present, past, AreConnections, IsBegun}
use Rattle.delivery.specs.Merges.{values_of, IsMerge}
use Rattle.delivery.specs.Arrivals.{arrivals}
use Rattle.delivery.specs.Commands.{first_sendings, AreCommandsOf}
use Rattle.delivery.specs.Joined.{IsSetUp}

-- The premises, of the station at this place in the settings

-- An outstation took these turns at the requests to it, each received or not; and a frame at the
-- front of an exchange is its answer to that request. So no answer was late, and none was altered
-- unseen.
abbrev pub IsHonest : Setup → Log → ℕ → List Turn → Type 0
IsHonest p log i turns =
    outstation.IsHonest (address_at p.addresses i) (exchanges_with p i log) turns

-- From its first answered reset on, the station is always up: no reset of the link was caused.
abbrev pub IsSteady : Setup → Log → ℕ → Type 0
IsSteady p log i = link.IsSteady p.link (address_at p.addresses i) Down (exchanges_with p i log)

-- The log is that of one life: the gateway wasn't started again.
abbrev pub IsOneLife : Log → Type 0
IsOneLife [] = Unit {0}
IsOneLife (Came now Restarted ∷ log) = ⊥
IsOneLife (entry ∷ log) = IsOneLife log

-- What was taken

-- the reports taken from it, in order
abbrev pub reports_from : Setup → Log → ℕ → List (List ℕ)
reports_from p log i = values_of i (reports_in p log)

-- the monitor objects of reports, in order
abbrev pub objects_in : Sizes → List (List ℕ) → List InformationObject
objects_in sizes reports = flat_map (λ report. monitor_objects sizes report) reports

-- the monitor objects taken from it, in order
abbrev pub taken_from : Setup → Log → ℕ → List InformationObject
taken_from p log i = objects_in p.sizes (reports_from p log i)

-- Sessions of the link

-- its exchanges before the first answered reset of the link
abbrev pub before_sessions : Setup → Log → ℕ → List Turn → Session
before_sessions p log i turns =
    before_reset (address_at p.addresses i) (exchanges_with p i log) turns

-- those from one answered reset to the next, and with each its turns
abbrev pub sessions_of : Setup → Log → ℕ → List Turn → List Session
sessions_of p log i turns = sessions (address_at p.addresses i) (exchanges_with p i log) turns

-- Nothing was taken of a report, nor confirmed; and the outstation gave no report and accepted no
-- command.
pub record IsIdle (station : ℕ) (session : Session) : Type 0 where
  pub taken : learnt station session.exchanges ≡ []
  pub done : all_done session.turns ≡ []

-- What was taken from an outstation that took these turns is what it reported, or all but the last
-- report. It is all of it if its latest exchange was answered. The commands that it accepted are
-- those put on the line for it (a repeat of an unanswered one not counted) that weren't answered
-- busy, in that order, or all but the last. They are all of them if the service without an outcome,
-- if there is one, is no command.
pub record IsRelayed (p : Setup) (log : Log) (i : ℕ) (turns : List Turn) : Type 0 where
  pub most : IsAllOrButLast (reports (all_done turns)) (reports_from p log i)
  pub all : IsLatestAnswered (address_at p.addresses i) (exchanges_with p i log) →
      reports_from p log i ≡ reports (all_done turns)
  pub downwards : IsAllOrButLast
      (sendings_not_busy (address_at p.addresses i) None (exchanges_with p i log))
      (commands (all_done turns))
  pub downwards_all : is_command_pending
      (pending_after (address_at p.addresses i) None (exchanges_with p i log)) ≡ false →
      sendings_not_busy (address_at p.addresses i) None (exchanges_with p i log)
      ≡ commands (all_done turns)

-- Nothing is lost, and nothing taken twice: the monitor objects sent on each connection are a
-- contiguous run of the objects taken, from the first that no earlier connection acknowledged. (The
-- log's one course shows which that is, also if a connection was closed for want of a place for an
-- own answer: its octets alone don't show how far they were taken.) The objects taken are a merge
-- of those taken from the stations. From an honest outstation whose link stays up, what was taken
-- is what it reported, or all but its last report. Each command that is put on the line for the
-- first time is one of the control centre's, given once, in the line's octets and without a time
-- tag. It came while its tag, if it had one, was fresh by the wall moments of the log. So it is
-- with each command that an honest outstation accepted, also if its link was reset on the way.
pub record Delivers (p : Setup) (log : Log) : Type 0 where
  pub course : Course
  pub course_runs : Runs p log course
  pub begun : IsBegun (present log) (here_of course)
  pub are : AreConnections (past log) course.earlier
  pub run : AreInOrder (taken_objects p log) (here_of course ∷ course.earlier)
  pub merged : IsMerge (length p.addresses) (taken_from p log) (taken_objects p log)
  pub relayed : (i : ℕ) (turns : List Turn) → i < length p.addresses →
      IsHonest p log i turns → IsSteady p log i → IsRelayed p log i turns
  pub sent : IsSetUp p → (i : ℕ) →
      AreCommandsOf p i (arrivals log (here_of course ∷ course.earlier))
      (first_sendings (address_at p.addresses i) None (exchanges_with p i log))
  pub accepted : IsSetUp p → (i : ℕ) (turns : List Turn) → i < length p.addresses →
      IsHonest p log i turns →
      AreCommandsOf p i (arrivals log (here_of course ∷ course.earlier))
      (commands (all_done turns))
