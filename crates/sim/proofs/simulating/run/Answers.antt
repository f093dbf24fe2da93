use Rattle.std.proofs.Common.{◌≡◌, ap, ◌∙◌, inr}
use Rattle.gateway.specs.Setups.{setup_of}
use Rattle.gateway.specs.Traffic.{HasRested}
use Rattle.sim.specs.Calls.{calls_in}
use Rattle.sim.specs.Lives.{Plan, plan_of}
use Rattle.sim.specs.Losses.{turns_of}
use Rattle.sim.specs.Played.{Simulated}
use Rattle.traces.specs.Actions.{lines_of_actions}
use Rattle.traces.proofs.Poured.{poured_all, poured_begun}
use Rattle.sim.proofs.SimulationLemmas.{at_turns, at_finish, begun_blank, at_first_call, run_turns}
use Rattle.sim.proofs.SimulationLemmas.{ended_calls, stopped}
use Rattle.sim.proofs.simulating.run.Goals as goal

pub returns-in-Turns : goal.returns-in-Turns
returns-in-Turns g c =
    let settings = c.args.config.now in
    let ds = c.args.script.now in
    let p = setup_of settings in
    let port = c.drive_printed-end.new.port in
    let end = c.drive_printed-end.result.0 in
    let before = g.W.Write.contents c.args.out.now in
    let after = g.W.Write.contents c.drive_printed-end.new.out in
    let begun = at_first_call p c.in_ok-gateway.gateway (plan_of settings ds) c.in_ok-sim.sim
    c.in_ok-sim.ensures
    c.in_ok-gateway.ensures.begins in
    let plan : port.plan ≡ plan_of settings ds = c.drive_printed-end.ensures.course
    ∙ ap (λ (s : Simulated). s.plan) c.in_ok-sim.ensures in
    let calls : calls_in port.log ≡ turns_of ds =
    run_turns c.turns-turns.result (turns_of ds) c.in_ok-sim.sim.log port.log c.turns-turns.ensures
    (ap (λ (s : Simulated). s.log) c.in_ok-sim.ensures)
    (c.drive_printed-end.ensures.turns c.in-Turns.is) in
    c.close.ensures settings ds before plan c.stations-stations.ensures.rules calls
    (c.drive_printed-end.ensures.faithful p begun.0 begun.1)
    (at_turns end (HasRested p port.log) c.in-Turns.is (c.drive_printed-end.ensures.rests p begun.0
    begun.1))
    (poured_all c.drive_printed-end.result.1 before after port.log port.poured
    c.drive_printed-end.ensures.all
    (c.drive_printed-end.ensures.poured before
    (begun_blank before c.in_ok-sim.sim (plan_of settings ds) c.in_ok-sim.ensures)))

pub returns-in-Finished : goal.returns-in-Finished
returns-in-Finished g c =
    let settings = c.args.config.now in
    let ds = c.args.script.now in
    let p = setup_of settings in
    let port = c.drive_printed-end.new.port in
    let end = c.drive_printed-end.result.0 in
    let before = g.W.Write.contents c.args.out.now in
    let after = g.W.Write.contents c.drive_printed-end.new.out in
    let begun = at_first_call p c.in_ok-gateway.gateway (plan_of settings ds) c.in_ok-sim.sim
    c.in_ok-sim.ensures
    c.in_ok-gateway.ensures.begins in
    let plan : port.plan ≡ plan_of settings ds = c.drive_printed-end.ensures.course
    ∙ ap (λ (s : Simulated). s.plan) c.in_ok-sim.ensures in
    let calls : calls_in port.log ≡ turns_of ds =
    ended_calls port (c.drive_printed-end.ensures.finished c.in-Finished.is)
    c.page-page_is_clear.ensures.stands
    ∙ ap (λ (q : Plan). turns_of q.directives) plan in
    c.close-in-Finished.ensures settings ds before plan c.stations-stations.ensures.rules
    calls
    (c.drive_printed-end.ensures.faithful p begun.0 begun.1)
    (at_finish end (HasRested p port.log) c.in-Finished.is
    (c.drive_printed-end.ensures.rests p begun.0 begun.1))
    (poured_all c.drive_printed-end.result.1 before after port.log port.poured
    c.drive_printed-end.ensures.all
    (c.drive_printed-end.ensures.poured before
    (begun_blank before c.in_ok-sim.sim (plan_of settings ds) c.in_ok-sim.ensures)))

pub returns : goal.returns
returns g c =
    let settings = c.args.config.now in
    let ds = c.args.script.now in
    let p = setup_of settings in
    let port = c.drive_printed-end.new.port in
    let before = g.W.Write.contents c.args.out.now in
    let after = g.W.Write.contents c.drive_printed-end.new.out in
    let begun = at_first_call p c.in_ok-gateway.gateway (plan_of settings ds) c.in_ok-sim.sim
    c.in_ok-sim.ensures
    c.in_ok-gateway.ensures.begins in
    let plan : port.plan ≡ plan_of settings ds = c.drive_printed-end.ensures.course
    ∙ ap (λ (s : Simulated). s.plan) c.in_ok-sim.ensures in
    inr (stopped settings ds port before after plan c.page-page_is_clear.ensures.stands
    (c.drive_printed-end.ensures.faithful p begun.0 begun.1)
    (poured_begun c.drive_printed-end.result.1 before after (lines_of_actions port.log)
    (poured_all c.drive_printed-end.result.1 before after port.log port.poured
    c.drive_printed-end.ensures.all
    (c.drive_printed-end.ensures.poured before
    (begun_blank before c.in_ok-sim.sim (plan_of settings ds) c.in_ok-sim.ensures)))))
