use Rattle.std.proofs.Common.{ℕ, List, inr, subst}
use Rattle.std.specs.Prelude.{string_bytes}
use Rattle.sim.specs.Runs.{IsRun}
use Rattle.traces.specs.Actions.{lines_of_actions}
use Rattle.sim.specs.Simulations.{IsClosedBy}
use Rattle.traces.proofs.Poured.{poured_begun}
use Rattle.sim.proofs.SimulationLemmas.{at_ok, ended, stopped}
use Rattle.sim.proofs.simulating.close.Goals as goal

pub returns-in-Ok : goal.returns-in-Ok
returns-in-Ok g c = λ settings ds before plan apart calls faithful rests poured.
    let s = c.args.sim.now in
    let after = g.W.Write.contents c.print_closing.new.out in
    ended settings ds s.log (string_bytes c.in-Ok.lines) before after c.print_closing.result
    (at_ok c.closing.result c.in-Ok.lines (λ text. IsRun settings ds s.log (string_bytes text))
    c.in-Ok.is
    (c.closing.ensures settings ds plan apart calls faithful rests))
    (subst (λ (closing : List ℕ). IsClosedBy before after (lines_of_actions s.log) closing
    c.print_closing.result)
    c.as_bytes.ensures.value (c.print_closing.ensures before (lines_of_actions s.log) poured))

pub returns-in-Err : goal.returns-in-Err
returns-in-Err g c = λ settings ds before plan apart calls faithful rests poured.
    let s = c.args.sim.now in
    let after = g.W.Write.contents c.args.out.now in
    inr (stopped settings ds s before after plan c.page-page_is_clear.ensures.stands faithful
    (poured_begun c.args.is_whole before after (lines_of_actions s.log) poured))
