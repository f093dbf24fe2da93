use Rattle.std.proofs.lemmas.Result.{IfOk-weaker}
use Rattle.telegate.specs.CommandLine.{IsCommand, bare, show101, show104, check, replay, sim, audit}
use Rattle.telegate.specs.CommandLine.{run, status, state, capture, stations, centre, program}
use Rattle.telegate.proofs.command_line.program.Goals as goal

pub returns : goal.returns
returns c =
    let first = c.in_ok-program.ensures bare show101 c.bare.ensures c.show101.ensures in
    let second = c.in_ok-program-2.ensures _ show104 first c.show104.ensures in
    let third = c.in_ok-program-3.ensures _ check second c.check.ensures in
    let fourth = c.in_ok-program-4.ensures _ replay third c.replay.ensures in
    let fifth = c.in_ok-program-5.ensures _ sim fourth c.sim.ensures in
    let sixth = c.in_ok-program-6.ensures _ audit fifth c.audit.ensures in
    let seventh = c.in_ok-program-7.ensures _ run sixth c.run.ensures in
    let eighth = c.in_ok-program-8.ensures _ status seventh c.status.ensures in
    let ninth = c.in_ok-program-9.ensures _ state eighth c.state.ensures in
    let tenth = c.in_ok-program-10.ensures _ capture ninth c.capture.ensures in
    let eleventh = c.in_ok-program-11.ensures _ stations tenth c.stations.ensures in
    IfOk-weaker c.add_command-12.result _ (IsCommand program)
    (λ r adds. adds _ centre eleventh c.centre.ensures)
    c.add_command-12.ensures
