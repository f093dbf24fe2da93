use Rattle.std.proofs.Common.{◌≡◌, Some, inr}
use Rattle.gateway.specs.Accounts.{IsAccounted}
use Rattle.gateway.specs.Agrees.{Follows}
use Rattle.gateway.specs.Traffic.{HasRested}
use Rattle.traces.specs.Actions.{lines_of_actions}
use Rattle.telegate.proofs.PartLemmas.{part_run, part_stopped, part_poured, turns_left}
use Rattle.traces.proofs.Poured.{poured_all, poured_begun}
use Rattle.telegate.proofs.RunLemmas.{at_finish}
use Rattle.telegate.proofs.replay.run_part.Goals as goal

pub unreachable-requires : goal.unreachable-requires
unreachable-requires g c =
    turns_left c.args.pause c.args.lines.now c.args.gateway.now c.over-port.result
    c.drive_printed-end.new.port
    c.over-port.ensures c.drive_printed-end.ensures.course c.page-page_is_clear.ensures.whole
    c.in-Some.turns c.in-Some.ensures (c.drive_printed-end.ensures.turns c.in-Turns.is)

pub returns-in-Finished-clause-run : goal.returns-in-Finished-clause-run
returns-in-Finished-clause-run g c =
    let port = c.drive_printed-end.new.port in
    let state = c.drive_printed-end.new.gateway in
    let end = c.drive_printed-end.result.0 in
    part_run c.args.pause c.args.lines.now c.args.gateway.now c.over-port.result port
    c.over-port.ensures c.drive_printed-end.ensures.course c.page-page_is_clear.ensures.whole
    state c.pause.result c.pause.ensures (c.drive_printed-end.ensures.finished c.in-Finished.is)
    c.page-page_is_clear.ensures.right
    (λ p begins rested. record {
      faithful = c.drive_printed-end.ensures.faithful p begins rested;
      rests = at_finish end (HasRested p port.log) c.in-Finished.is
          (c.drive_printed-end.ensures.rests p begins rested);
      follows = at_finish end (Follows p state (Some port.log)) c.in-Finished.is
          (c.drive_printed-end.ensures.kept p begins rested);
      accounts = at_finish end (IsAccounted p state port.log) c.in-Finished.is
          (c.drive_printed-end.ensures.accounts p begins rested);
    })
    (at_finish end (port.failed ≡ 0) c.in-Finished.is c.drive_printed-end.ensures.healthy)
    c.drive_printed-end.ensures.all

pub returns-in-Device-clause-begun : goal.returns-in-Device-clause-begun
returns-in-Device-clause-begun g c = inr (λ before poured.
    let port = c.drive_printed-end.new.port in
    let is_whole = c.drive_printed-end.result.1 in
    let after = g.W.Write.contents c.drive_printed-end.new.out in
    part_stopped c.args.pause c.args.lines.now c.args.gateway.now c.over-port.result port
    c.over-port.ensures c.drive_printed-end.ensures.course c.page-page_is_clear.ensures.whole
    before after (λ p begins rested. c.drive_printed-end.ensures.faithful p begins rested)
    (poured_begun is_whole before after (lines_of_actions port.log)
    (poured_all is_whole before after port.log port.poured c.drive_printed-end.ensures.all
    (c.drive_printed-end.ensures.poured before
    (part_poured c.args.pause c.args.lines.now c.args.gateway.now c.over-port.result port
    c.over-port.ensures c.drive_printed-end.ensures.course c.page-page_is_clear.ensures.whole
    c.args.was_whole before (g.W.Write.contents c.args.out.now) c.requires poured)))))
