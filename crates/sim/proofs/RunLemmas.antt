-- Whole runs.
use Rattle.std.proofs.Common.{◌≡◌, ℕ, ◌<◌, ◌^◌, List, Option, ap, subst, ◌∙◌}
use Rattle.ft12.specs.declared.frame.Frame.{Frame}
use Rattle.link.specs.Secondary.{Secondary}
use Rattle.gateway.specs.Log.{Log}
use Rattle.gateway.specs.Order.{KeepsOrder}
use Rattle.gateway.specs.Config.{Settings}
use Rattle.gateway.specs.Setups.{setup_of}
use Rattle.gateway.specs.Traffic.{IsFaithful, HasRested}
use Rattle.delivery.specs.Delivery.{Delivers}
use Rattle.sim.specs.declared.directive.Directive.{Directive}
use Rattle.sim.specs.declared.tally.StationTally.{StationTally}
use Rattle.sim.specs.Tallies.{tallies_of}
use Rattle.sim.specs.Losses.{turns_of}
use Rattle.sim.specs.Lives.{Plan, plan_of, requests_in}
use Rattle.sim.specs.Calls.{calls_in}
use Rattle.sim.specs.Played.{IsPlayed, Stands, Simulated}
use Rattle.sim.specs.Texts.{connection_lines, closing_lines}
use Rattle.sim.specs.Outstations.{HaveServed}
use Rattle.sim.specs.Runs.{IsRun}

-- a run of the plan, with what is counted of it
record IsLogged (plan : Plan) (log : Log) (stations : List Secondary)
    (answers : List (Option Frame))
    (tallies : List StationTally) : Type 0 where
  played : IsPlayed plan log answers stations
  counted : tallies ≡ tallies_of plan log answers stations played.lived

-- the run of which these are the closing lines
pub logged_run : (c : Settings) (ds : List Directive) (s : Simulated) (closing : List ℕ)
    → s.plan ≡ plan_of c ds →
    calls_in s.log ≡ turns_of ds → IsFaithful (setup_of c) s.log → HasRested (setup_of c) s.log
    → KeepsOrder s.log
    → closing ≡ closing_lines s.plan.directives s.stations (connection_lines 1 s.standing.counts)
    s.standing.tallied.each
    → Stands s.plan s.log s.stations s.standing → Delivers (setup_of c) s.log →
    ((answers : List (Option Frame)) (ss : List Secondary) (ts : List StationTally)
    (played : IsPlayed (plan_of c ds) s.log answers ss)
    → ts ≡ tallies_of (plan_of c ds) s.log answers ss played.lived
    → requests_in s.log < 2 ^ 64 → HaveServed c ds s.log 0 ss ts) → IsRun c ds s.log closing
logged_run c ds s closing plan calls faithful rests order lines k delivers serve =
    let was : IsLogged s.plan s.log s.stations k.answers s.standing.tallied.each =
    record { played = k.played; counted = k.each } in
    let now : IsLogged (plan_of c ds) s.log s.stations k.answers s.standing.tallied.each =
    subst (λ (q : Plan). IsLogged q s.log s.stations k.answers s.standing.tallied.each) plan was in
    let small : s.standing.requests < 2 ^ 64 = k.few in
    let few : requests_in s.log < 2 ^ 64 = subst (λ (n : ℕ). n < 2 ^ 64) k.requests small in
    record {
      stations = s.stations;
      tallies = s.standing.tallied.each;
      answers = k.answers;
      played = now.played;
      calls = calls;
      faithful = faithful;
      rests = rests;
      ordered = order;
      delivers = delivers;
      served = serve k.answers s.stations s.standing.tallied.each now.played now.counted few;
      lines = lines
          ∙ ap (λ (p : Plan). closing_lines p.directives s.stations
          (connection_lines 1 s.standing.counts)
          s.standing.tallied.each) plan
          ∙ ap (λ (ns : List ℕ). closing_lines ds s.stations (connection_lines 1 ns)
          s.standing.tallied.each) k.counts;
    }
