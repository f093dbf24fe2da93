-- Whole runs over a simulated line, and what was written of them.
use Rattle.std.specs.Prelude.{◌≡◌, ◌≤◌, ◌++◌, ℕ, List, Option}
use Rattle.std.specs.Io.KnownBytes.{Appends}
use Rattle.ft12.specs.declared.frame.Frame.{Frame}
use Rattle.link.specs.Secondary.{Secondary}
use Rattle.gateway.specs.Config.{Settings}
use Rattle.gateway.specs.Log.{Log}
use Rattle.gateway.specs.Order.{KeepsOrder}
use Rattle.gateway.specs.Setups.{setup_of}
use Rattle.gateway.specs.Traffic.{IsFaithful, HasRested}
use Rattle.delivery.specs.Delivery.{Delivers}
use Rattle.traces.specs.Actions.{lines_of_actions}
pub use Rattle.traces.specs.Pouring.{IsBegun}
use Rattle.sim.specs.declared.directive.Directive.{Directive}
use Rattle.sim.specs.declared.tally.StationTally.{StationTally}
use Rattle.sim.specs.Losses.{turns_of}
use Rattle.sim.specs.Lives.{plan_of}
use Rattle.sim.specs.Calls.{calls_in}
use Rattle.sim.specs.Played.{IsPlayed}
use Rattle.sim.specs.Outstations.{HaveServed}
use Rattle.sim.specs.Connections.{counted_in}
use Rattle.sim.specs.Texts.{closing_lines, connection_lines}

-- A run of the script, and its closing lines. Its events are what the script gives at each of so
-- many calls, and its stations have answered and stand as their requests make them. What the
-- gateway did keeps every promise of a gateway, to the end of its last step, and the order of
-- actions in each step. So what it sent on each connection is a contiguous run of a merge of what
-- it took. And each station was an honest outstation, whose link stayed up if unanswered services
-- are held. So what was taken from it is what it gave, or all but the last. The closing lines of
-- stations, connections and sessions have the numbers of that run: those of the connections count
-- the monitor objects sent on them.
pub record IsRun (c : Settings) (ds : List Directive) (log : Log) (closing : List ℕ) : Type 0 where
  pub stations : List Secondary
  pub tallies : List StationTally
  pub answers : List (Option Frame)
  pub played : IsPlayed (plan_of c ds) log answers stations
  pub calls : calls_in log ≡ turns_of ds
  pub faithful : IsFaithful (setup_of c) log
  pub rests : HasRested (setup_of c) log
  pub ordered : KeepsOrder log
  pub delivers : Delivers (setup_of c) log
  pub served : HaveServed c ds log 0 stations tallies
  pub lines : closing ≡ closing_lines ds stations (connection_lines 1 (counted_in log)) tallies

-- What was written is the text of a run of the script: a line for each action, and closing lines.
pub record IsSimulated (c : Settings) (ds : List Directive)
    (before after : Option (List ℕ)) : Type 0 where
  pub log : Log
  pub closing : List ℕ
  pub run : IsRun c ds log closing
  pub text : Appends before after (lines_of_actions log ++ closing)

-- What was written is the beginning of the text of a run of the script.
pub record IsCutShort (c : Settings) (ds : List Directive)
    (before after : Option (List ℕ)) : Type 0 where
  pub log : Log
  pub closing : List ℕ
  pub run : IsRun c ds log closing
  pub text : IsBegun before after (lines_of_actions log ++ closing)

-- What was written is the beginning of the lines of a run that stopped before its end: its events
-- are what the script gives at its first calls, and the gateway has kept its promises so far.
pub record IsStopped (c : Settings) (ds : List Directive)
    (before after : Option (List ℕ)) : Type 0 where
  pub log : Log
  pub stations : List Secondary
  pub answers : List (Option Frame)
  pub played : IsPlayed (plan_of c ds) log answers stations
  pub calls : calls_in log ≤ turns_of ds
  pub faithful : IsFaithful (setup_of c) log
  pub text : IsBegun before after (lines_of_actions log)
