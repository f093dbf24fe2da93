use Rattle.std.proofs.Common.{List, ap, ◌∙◌}
use Rattle.std.proofs.lemmas.Result.{IfOk-weaker}
use Rattle.std.specs.Prelude.{string_bytes}
use Rattle.gateway.specs.Setups.{setup_of}
use Rattle.link.specs.Secondary.{Secondary}
use Rattle.sim.specs.declared.directive.Directive.{Directive}
use Rattle.sim.specs.declared.tally.StationTally.{StationTally}
use Rattle.sim.specs.Runs.{IsRun}
use Rattle.sim.specs.Texts.{connection_lines, closing_lines}
use Rattle.sim.proofs.RunLemmas.{logged_run}
use Rattle.sim.proofs.sim.Sim.closing.Goals as goal

pub returns : goal.returns
returns c = λ settings ds plan apart calls faithful rests.
    let s = c.args.self.now in
    IfOk-weaker c.closing_lines.result _ (λ text. IsRun settings ds s.log (string_bytes text))
    (λ text is. logged_run settings ds s (string_bytes text) plan calls faithful rests
    (c.steps_keep_their_order.ensures.settings settings s.log faithful)
    (is
    ∙ ap (λ (l : List Directive). closing_lines l c.stations.result.now
    (connection_lines 1 c.counts.result.now)
    c.tallies.result.now) c.directives.ensures
    ∙ ap (λ (l : List Secondary). closing_lines s.plan.directives l
    (connection_lines 1 c.counts.result.now)
    c.tallies.result.now) c.stations.ensures
    ∙ ap (λ l. closing_lines s.plan.directives s.stations (connection_lines 1 l)
    c.tallies.result.now) c.counts.ensures
    ∙ ap (λ (l : List StationTally). closing_lines s.plan.directives s.stations
    (connection_lines 1 s.standing.counts) l)
    c.tallies.ensures)
    c.page-page.ensures.stands (c.nothing_is_lost.ensures (setup_of settings) s.log faithful)
    (λ answers ss ts played are few. c.stations_are_honest.ensures settings ds s.log answers ss ts
    apart played are few
    faithful))
    c.closing_lines.ensures
