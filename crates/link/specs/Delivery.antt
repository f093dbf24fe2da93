-- What a primary station that keeps the frame count bit knows of an honest outstation: each service
-- acts once, and its answer is taken once. (The frame count bit of IEC 60870-5-2 is there to give
-- this.)
use Rattle.std.specs.Prelude.{◌≡◌, ℕ, ◌⊎◌, Bool, true, false, List, [], ◌∷◌, ◌++◌, Option, Some}
use Rattle.std.specs.Prelude.{None, is_some, if◌then◌else◌}
use Rattle.link.specs.Answers.{Frame, Service, Class1, Class2, Command, Asked, Status, Reset}
use Rattle.link.specs.Answers.{Counted, Answer, Confirmed, Busy, Unable}
use Rattle.link.specs.Exchanges.{Exchange, answer_to}
use Rattle.link.specs.Outstation.{Effect, Given, Accepted, effects_of, Outstation, unreset, Turn}
use Rattle.link.specs.Outstation.{OutstationRun, all_done}

-- what the primary learns of the outstation's doings by an answer
abbrev pub learnt_by : Asked → Option Answer → List Effect
learnt_by (Counted fcb service) (Some answer) = effects_of service answer
learnt_by (Counted fcb service) None = []
learnt_by Status answer = []
learnt_by Reset answer = []

-- what it learns by these exchanges
abbrev pub learnt : (station : ℕ) → List Exchange → List Effect
learnt station [] = []
learnt station (x ∷ xs) = learnt_by x.request (answer_to station x) ++ learnt station xs

abbrev pub requests_of : List Exchange → List Asked
requests_of [] = []
requests_of (x ∷ xs) = x.request ∷ requests_of xs

-- A frame at the front of an exchange is the outstation's answer to its request.
abbrev pub IsTrueFront : Option Frame → Turn → Type 0
IsTrueFront None turn = Unit {0}
IsTrueFront (Some frame) turn = turn.answer ≡ Some frame

abbrev pub AreTrueFronts : List Exchange → List Turn → Type 0
AreTrueFronts (x ∷ xs) (turn ∷ turns) = IsTrueFront x.front turn × AreTrueFronts xs turns
AreTrueFronts xs turns = Unit {0}

-- The exchanges are those of an outstation that took these turns: answers are lost, or come in
-- their exchange and unaltered.
pub record IsHonest (station : ℕ) (xs : List Exchange) (turns : List Turn) : Type 0 where
  pub end : Outstation
  pub run : OutstationRun station unreset (requests_of xs) turns end
  pub fronts : AreTrueFronts xs turns

-- the service that the primary has no outcome of: its latest one in this session, if that was not
-- answered, or was answered that it couldn't be served
abbrev pub pending_by : Asked → Option Answer → Option Service → Option Service
pending_by (Counted fcb service) None pending = Some service
pending_by (Counted fcb service) (Some Unable) pending = Some service
pending_by (Counted fcb service) (Some answer) pending = None
pending_by Status answer pending = pending
pending_by Reset (Some Confirmed) pending = None
pending_by Reset answer pending = pending

abbrev pub pending_after : (station : ℕ) → Option Service → List Exchange → Option Service
pending_after station pending [] = pending
pending_after station pending (x ∷ xs) =
    pending_after station (pending_by x.request (answer_to station x) pending) xs

-- What the outstation may have done that the primary doesn't know of: what the pending service asks
-- for, once.
abbrev pub MayOwe : Option Service → List Effect → Type 0
MayOwe None owed = owed ≡ []
MayOwe (Some Class1) owed = (owed ≡ []) ⊎ ((asdu : List ℕ) × (owed ≡ Given asdu ∷ []))
MayOwe (Some Class2) owed = (owed ≡ []) ⊎ ((asdu : List ℕ) × (owed ≡ Given asdu ∷ []))
MayOwe (Some (Command asdu)) owed = (owed ≡ []) ⊎ (owed ≡ Accepted asdu ∷ [])

-- The outstation has done what the primary learnt, in that order, and then at most what the pending
-- service asks for.
pub record IsKnown (learnt : List Effect) (pending : Option Service)
    (done : List Effect) : Type 0 where
  pub owed : List Effect
  pub may_owe : MayOwe pending owed
  pub whole : learnt ++ owed ≡ done

-- A confirmed reset begins a session of the link.
abbrev pub is_reset : Asked → Option Answer → Bool
is_reset Reset (Some Confirmed) = true
is_reset Reset answer = false
is_reset Status answer = false
is_reset (Counted fcb service) answer = false

-- some of the exchanges, with the outstation's turns at them
pub record Session : Type 0 where
  pub exchanges : List Exchange
  pub turns : List Turn

abbrev pub with_first : Exchange → Turn → Session → Session
with_first x turn session = record {
  exchanges = x ∷ session.exchanges;
  turns = turn ∷ session.turns;
}

-- what comes before the first confirmed reset
abbrev pub before_reset : (station : ℕ) → List Exchange → List Turn → Session
before_reset station (x ∷ xs) (turn ∷ turns) =
    if is_reset x.request (answer_to station x) then record { exchanges = []; turns = [] }
    else with_first x turn (before_reset station xs turns)
before_reset station xs turns = record { exchanges = []; turns = [] }

-- the sessions: each is a confirmed reset and what comes before the next one
abbrev pub sessions : (station : ℕ) → List Exchange → List Turn → List Session
sessions station (x ∷ xs) (turn ∷ turns) =
    if is_reset x.request (answer_to station x)
    then with_first x turn (before_reset station xs turns) ∷ sessions station xs turns
    else sessions station xs turns
sessions station xs turns = []

-- The outstation has done in the session what the primary learnt in it, and then at most what the
-- session's last service asks for.
abbrev pub IsSessionKnown : (station : ℕ) → Session → Type 0
IsSessionKnown station session =
    IsKnown (learnt station session.exchanges) (pending_after station None session.exchanges)
    (all_done session.turns)

-- these, or all of them but the last
abbrev pub IsAllOrButLast : {A : Type 0} → List A → List A → Type 0
IsAllOrButLast {A} all some = (some ≡ all) ⊎ ((last : A) × (some ++ last ∷ [] ≡ all))

-- whether the latest exchange was answered, statuses left out; if there was none, nothing is
-- missing
abbrev pub answered_by : Asked → Option Answer → (before : Bool) → Bool
answered_by Status answer before = before
answered_by Reset answer before = is_some answer
answered_by (Counted fcb service) answer before = is_some answer

abbrev pub is_latest_answered : (station : ℕ) → (before : Bool) → List Exchange → Bool
is_latest_answered station before [] = before
is_latest_answered station before (x ∷ xs) =
    is_latest_answered station (answered_by x.request (answer_to station x) before) xs

abbrev pub IsLatestAnswered : (station : ℕ) → List Exchange → Type 0
IsLatestAnswered station xs = is_latest_answered station true xs ≡ true

abbrev pub given_by : Effect → List (List ℕ)
given_by (Given asdu) = asdu ∷ []
given_by (Accepted asdu) = []

-- the reports among these effects
abbrev pub reports : List Effect → List (List ℕ)
reports [] = []
reports (effect ∷ effects) = given_by effect ++ reports effects

abbrev pub accepted_by : Effect → List (List ℕ)
accepted_by (Given asdu) = []
accepted_by (Accepted asdu) = asdu ∷ []

-- the commands among these effects
abbrev pub commands : List Effect → List (List ℕ)
commands [] = []
commands (effect ∷ effects) = accepted_by effect ++ commands effects

-- the command that a service is
abbrev pub command_of : Service → List (List ℕ)
command_of (Command asdu) = asdu ∷ []
command_of Class1 = []
command_of Class2 = []

-- Whether the service that the first of these exchanges sends is in the end answered that the link
-- is busy.
abbrev pub is_busy_by : Asked → Option Answer → (later : Bool) → Bool
is_busy_by (Counted fcb service) (Some Busy) later = true
is_busy_by (Counted fcb service) (Some Unable) later = later
is_busy_by (Counted fcb service) (Some answer) later = false
is_busy_by (Counted fcb service) None later = later
is_busy_by Status answer later = later
is_busy_by Reset answer later = later

abbrev pub is_answered_busy : (station : ℕ) → List Exchange → Bool
is_answered_busy station [] = false
is_answered_busy station (x ∷ xs) =
    is_busy_by x.request (answer_to station x) (is_answered_busy station xs)

-- A first sending is a command that isn't the repeat of an unanswered one.
abbrev pub first_sending : Option Service → Asked → List (List ℕ)
first_sending None (Counted fcb service) = command_of service
first_sending pending request = []

-- the first sendings among the exchanges of a session that weren't answered busy
abbrev pub sendings_not_busy : (station : ℕ) → Option Service → List Exchange → List (List ℕ)
sendings_not_busy station pending [] = []
sendings_not_busy station pending (x ∷ xs) =
    (if is_answered_busy station (x ∷ xs) then [] else first_sending pending x.request)
    ++ sendings_not_busy station (pending_by x.request (answer_to station x) pending) xs

-- The outstation accepted the session's commands that weren't answered busy, or all of them but the
-- last.
abbrev pub AcceptsSendings : (station : ℕ) → Session → Type 0
AcceptsSendings station session =
    IsAllOrButLast (sendings_not_busy station None session.exchanges)
    (commands (all_done session.turns))

-- whether the pending service is a command
abbrev pub is_command_pending : Option Service → Bool
is_command_pending None = false
is_command_pending (Some Class1) = false
is_command_pending (Some Class2) = false
is_command_pending (Some (Command asdu)) = true

-- If no command is pending in the end, the outstation accepted all of the session's commands that
-- weren't answered busy.
abbrev pub AcceptsAllSendings : (station : ℕ) → Session → Type 0
AcceptsAllSendings station session =
    is_command_pending (pending_after station None session.exchanges) ≡ false →
    sendings_not_busy station None session.exchanges ≡ commands (all_done session.turns)

-- In a session whose latest service is a poll that wasn't answered by a report or that there is
-- none, a report may be lost: a gap.
abbrev pub is_gap : Option Service → Bool
is_gap None = false
is_gap (Some Class1) = true
is_gap (Some Class2) = true
is_gap (Some (Command asdu)) = false

abbrev pub HasGap : (station : ℕ) → Session → Type 0
HasGap station session = is_gap (pending_after station None session.exchanges) ≡ true

-- The primary has all the session's reports, or all but the last. It has all of them if there is no
-- gap.
pub record HasReports (station : ℕ) (session : Session) : Type 0 where
  pub most : IsAllOrButLast (reports (all_done session.turns))
      (reports (learnt station session.exchanges))
  pub all : is_gap (pending_after station None session.exchanges) ≡ false →
      reports (learnt station session.exchanges) ≡ reports (all_done session.turns)
