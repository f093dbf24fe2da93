-- What each station of a simulated line did in a run, and what was taken from it.
use Rattle.std.specs.Prelude.{◌≡◌, ◌≤◌, ℕ, ◌+◌, ◌==◌, Bool, true, false, if◌then◌else◌, List, []}
use Rattle.std.specs.Prelude.{◌∷◌, ◌++◌, count_by, length, Option, Some, None}
use Rattle.std.specs.List.{flat_map, AllByRecursion}
use Rattle.link.specs.declared.service.Asked.{Asked}
use Rattle.link.specs.Exchanges.{Sending}
use Rattle.link.specs.Outstation.{Turn, silent, all_done}
use Rattle.link.specs.Delivery.{requests_of, reports, commands, learnt, sessions, HasReports}
use Rattle.link.specs.Delivery.{AcceptsSendings}
use Rattle.link.specs.Life.{given1, given2, u64_saturate}
use Rattle.link.specs.Secondary.{Secondary, fresh_station, served}
use Rattle.gateway.specs.declared.settings.Silence.TheVariants.{Hold}
use Rattle.gateway.specs.Config.{Settings}
use Rattle.gateway.specs.Log.{Log, Went, LineOut}
use Rattle.gateway.specs.Reports.{Setup, address_at, sending_in, exchanges_with}
use Rattle.gateway.specs.Setups.{setup_of}
use Rattle.delivery.specs.Delivery.{IsHonest, IsSteady, IsRelayed, reports_from}
use Rattle.delivery.specs.Sessions.{SessionCounts, session_counts}
use Rattle.sim.specs.declared.tally.StationTally.{StationTally}
use Rattle.sim.specs.declared.directive.Class.TheVariants.{One, Two}
use Rattle.sim.specs.declared.directive.Directive.{Directive}
use Rattle.sim.specs.declared.directive.RequestFate.{RequestFate}
use Rattle.sim.specs.declared.directive.RequestFate.TheVariants.{RequestLost, AnswerLost}
use Rattle.sim.specs.declared.directive.RequestFate.TheVariants.{AnswerSpoilt}
use Rattle.sim.specs.declared.directive.RequestFate.TheVariants.{Answered}
use Rattle.sim.specs.Losses.{fate_of, report_said}
use Rattle.sim.specs.Lives.{requests_in}
use Rattle.sim.specs.Texts.{reports_for}

-- a request is received unless it is lost
abbrev pub is_received : RequestFate → Bool
is_received RequestLost = false
is_received AnswerLost = true
is_received (AnswerSpoilt place) = true
is_received Answered = true

-- a request, if it is one to the station with this index, and whether it is received
abbrev pub request_to : (index : ℕ) → (arrived : Bool) → Option Sending → List (Bool × Asked)
request_to index arrived None = []
request_to index arrived (Some s) = if s.station == index then (arrived, s.request) ∷ [] else []

-- the requests of a log to the station with this index, the oldest first, and whether it received
-- each
abbrev pub requests_to : Setup → List Directive → (index : ℕ) → Log → List (Bool × Asked)
requests_to p ds index [] = []
requests_to p ds index (Went now (LineOut octets) ∷ log) =
    requests_to p ds index log
    ++ request_to index (is_received (fate_of ds (requests_in log + 1))) (sending_in p octets)
requests_to p ds index (entry ∷ log) = requests_to p ds index log

-- At a request that it doesn't receive a station does nothing. At any other it does what `link`'s
-- station does, whether it had memory or not.
abbrev pub TakesTurn : (arrived : Bool) → (old : Secondary) → Asked → Turn → (new : Secondary)
    → Type 0
TakesTurn false old request turn new = (turn ≡ silent) × (new ≡ old)
TakesTurn true old request turn new =
    (granted : Bool) × (turn ≡ (served granted old request).turn)
    × (new ≡ (served granted old request).state)

-- its turns at these requests, in order
abbrev pub TakesTurns : (old : Secondary) → List (Bool × Asked) → List Turn → (new : Secondary)
    → Type 0
TakesTurns old [] [] new = new ≡ old
TakesTurns old (r ∷ rs) (turn ∷ turns) new =
    (mid : Secondary) × TakesTurn r.0 old r.1 turn mid × TakesTurns mid rs turns new
TakesTurns old _ _ new = ⊥

-- the station with this index, before the first call: it was never reset, and has the reports that
-- the script gives it
abbrev pub first_station : Settings → List Directive → (index : ℕ) → Secondary
first_station c ds index =
    record (fresh_station c.line.link (address_at (setup_of c).addresses index)) {
      class1 = flat_map (report_said index One) ds;
      class2 = flat_map (report_said index Two) ds;
    }

-- the one list begins the other
abbrev pub Begins : {A : Type 0} → List A → List A → Type 0
Begins {A} some all = (rest : List A) × (some ++ rest ≡ all)

-- In each session of its link, from one confirmed reset to the next, what was taken from the
-- station with this index is what it gave, or all but the last; and the commands that it accepted
-- are those sent to it, or all but the last. All that was taken from it was taken in the sessions.
pub record HasSessions (p : Setup) (log : Log) (index : ℕ) (turns : List Turn) : Type 0 where
  pub each_report : AllByRecursion (λ s. HasReports (address_at p.addresses index) s)
      (sessions (address_at p.addresses index) (exchanges_with p index log) turns)
  pub each_command : AllByRecursion (λ s. AcceptsSendings (address_at p.addresses index) s)
      (sessions (address_at p.addresses index) (exchanges_with p index log) turns)
  pub joined : flat_map (λ s. reports (learnt (address_at p.addresses index) s.exchanges))
      (sessions (address_at p.addresses index) (exchanges_with p index log) turns)
      ≡ reports_from p log index

-- the numbers of its closing line of sessions
pub record IsCounted (counts : SessionCounts) (tally : StationTally) : Type 0 where
  pub sessions : tally.sessions ≡ counts.sessions
  pub gaps : tally.gaps ≡ counts.gaps
  pub lost : tally.lost ≡ counts.lost

-- What the station with this index did in a run that left it so, and what was counted of its link's
-- sessions.
pub record HasServed (c : Settings) (ds : List Directive) (log : Log) (index : ℕ) (s : Secondary)
    (tally : StationTally) : Type 0 where
  pub turns : List Turn
  -- It took these turns at the requests to it, and received those that weren't lost.
  pub took : TakesTurns (first_station c ds index) (requests_to (setup_of c) ds index log) turns s
  -- An outstation of IEC 60870-5-2 took these turns; and no answer came late, or altered unseen.
  pub honest : IsHonest (setup_of c) log index turns
  -- Of each class it gave the first of the script's reports, in their order.
  pub class1 : Begins (given1 (requests_of (exchanges_with (setup_of c) index log)) turns)
      (flat_map (report_said index One) ds)
  pub class2 : Begins (given2 (requests_of (exchanges_with (setup_of c) index log)) turns)
      (flat_map (report_said index Two) ds)
  -- the numbers of its closing line
  pub reported : count_by (reports_for index) ds
      ≡ length (flat_map (report_said index One) ds) + length (flat_map (report_said index Two) ds)
  pub given : s.given ≡ u64_saturate (length (reports (all_done turns)))
  pub accepted : s.accepted ≡ commands (all_done turns)
  pub sessions_known : HasSessions (setup_of c) log index turns
  -- What was counted is what the sessions say. Of the reports that it gave in sessions that ended,
  -- at most as many are in no answered poll as there are gaps.
  pub counted : IsCounted (session_counts (setup_of c) log index turns) tally
  pub lost : tally.lost ≤ tally.gaps
  -- If unanswered services are held, its link is never reset. What was taken from it is what it
  -- gave, or all but the last. The commands that it accepted are those sent to it, or all but the
  -- last.
  pub steady : c.line.silence ≡ Hold → IsSteady (setup_of c) log index
  pub relayed : c.line.silence ≡ Hold → IsRelayed (setup_of c) log index turns

-- each of the stations, from this index on
abbrev pub HaveServed : Settings → List Directive → Log → (index : ℕ) → List Secondary
    → List StationTally
    → Type 0
HaveServed c ds log index [] [] = Unit {0}
HaveServed c ds log index (s ∷ stations) (t ∷ tallies) =
    HasServed c ds log index s t × HaveServed c ds log (index + 1) stations tallies
HaveServed c ds log index _ _ = ⊥
