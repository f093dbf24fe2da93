-- Runs of a simulated line.
use Rattle.std.specs.Prelude.{◌≡◌, ℕ, ◌+◌, ◌≤◌, ◌<◌, ◌^◌, min, nat_le, Bool, true, false}
use Rattle.std.specs.Prelude.{if◌then◌else◌, List, [], Option, None, IfSome, length, replicate}
use Rattle.std.specs.List.{AllByRecursion}
use Rattle.ft12.specs.declared.frame.Frame.{Frame}
use Rattle.ft12.specs.Spelling.{Fits}
use Rattle.link.specs.Secondary.{Secondary}
use Rattle.gateway.specs.Log.{Log, LogEntry, Came, Went, LineIn, last_moment, latest}
use Rattle.gateway.specs.Reports.{exchanges_of}
use Rattle.sim.specs.declared.centre.Centre.{Centre}
use Rattle.sim.specs.Centres.{shut, centre_of, after_event}
use Rattle.sim.specs.Losses.{turns_of}
use Rattle.sim.specs.Lives.{Plan, AreLived, waiting_in, requests_in}
use Rattle.sim.specs.Tallies.{Tallied, tallied_after, awaited_in, tallies_of, fresh_tally}
use Rattle.sim.specs.Connections.{counted_after, counted_in}
use Rattle.sim.specs.Calls.{calls_in, moment_of, event_at, lasting, FollowsPlan}

-- The log is a run of the plan, in which the stations answered the requests so, the newest first,
-- each answer by a frame that has a spelling; and which leaves them so.
pub record IsPlayed (plan : Plan) (log : Log) (answers : List (Option Frame))
    (stations : List Secondary) : Type 0 where
  pub lived : AreLived plan log answers stations
  pub fit : AllByRecursion (λ answer. IfSome answer (Fits plan.size)) answers
  pub follows : FollowsPlan plan log answers

-- how a run stands: what waits, what the control centre knows, how many calls and requests there
-- were, and what is counted of the connections and of the stations' links
pub record Standing : Type 0 where
  pub waiting : Option (List ℕ)
  pub centre : Centre
  pub call : ℕ
  pub moment : ℕ
  pub requests : ℕ
  pub counts : List ℕ
  pub tallied : Tallied

-- The log is a run of the plan, and stands so.
pub record Stands (plan : Plan) (log : Log) (stations : List Secondary)
    (at : Standing) : Type 0 where
  pub answers : List (Option Frame)
  pub played : IsPlayed plan log answers stations
  pub waiting : at.waiting ≡ waiting_in plan log answers
  pub centre : at.centre ≡ centre_of log
  pub call : at.call ≡ calls_in log
  pub moment : at.moment ≡ moment_of log
  pub requests : at.requests ≡ requests_in log
  pub counts : at.counts ≡ counted_in log
  pub latest : latest log ≡ at.moment
  pub awaited : at.tallied.awaited ≡ awaited_in (exchanges_of plan.setup log).current
  pub each : at.tallied.each ≡ tallies_of plan log answers stations played.lived
  pub in_time : at.moment ≤ last_moment
  pub sent : at.centre.sent ≤ at.call
  pub few : at.requests < 2 ^ 64
  pub in_turns : at.call ≤ turns_of plan.directives
  pub sizes : AllByRecursion (λ s. s.size ≡ plan.size) stations

-- what a simulated line's port is to its callers
pub record Simulated : Type 0 where
  pub plan : Plan
  pub log : Log
  -- the log as it was when the page was cleared, and the lines that stand on the page
  pub poured : Log
  pub page : List ℕ
  pub failed : ℕ
  pub stations : List Secondary
  pub standing : Standing

abbrev pub has_ended : Simulated → Bool
has_ended s = nat_le (turns_of s.plan.directives) s.standing.call

-- the next event of a simulated line, and its moment
abbrev pub coming : Plan → Standing → LogEntry
coming plan at =
    let event = event_at plan.directives (at.call + 1) at.centre at.waiting in
    Came (min (at.moment + lasting plan.answer_ms event) last_moment) event

abbrev pub centre_after : LogEntry → Centre → Centre
centre_after (Came now event) c = after_event event c
centre_after (Went now action) c = c

abbrev pub moment_at : LogEntry → ℕ
moment_at (Came now event) = now
moment_at (Went now action) = now

-- an answer is given
abbrev pub is_given : LogEntry → Bool
is_given (Came now (LineIn octets)) = true
is_given entry = false

-- how a run of this plan stands after an event
abbrev pub standing_after : Plan → LogEntry → Standing → Standing
standing_after plan entry at = record {
  waiting = if is_given entry then None else at.waiting;
  centre = centre_after entry at.centre;
  call = at.call + 1;
  moment = moment_at entry;
  requests = at.requests;
  counts = counted_after entry at.counts;
  tallied = tallied_after plan.setup entry at.tallied;
}

-- a run of the plan, before its first call
abbrev pub fresh_run : Plan → Simulated
fresh_run plan = record {
  plan = plan;
  log = [];
  poured = [];
  page = [];
  failed = 0;
  stations = plan.stations;
  standing = record {
    waiting = None;
    centre = shut;
    call = 0;
    moment = 0;
    requests = 0;
    counts = [];
    tallied = record { awaited = None; each = replicate (length plan.stations) fresh_tally };
  };
}
