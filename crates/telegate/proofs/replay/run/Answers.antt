use Rattle.std.proofs.Common.{false}
use Rattle.gateway.specs.Setups.{setup_of}
use Rattle.telegate.specs.Answers.{IsEndOf}
use Rattle.telegate.specs.Source.{Gives}
use Rattle.telegate.specs.declared.manner.Manner.TheVariants.{Lines}
use Rattle.telegate.proofs.ReplayLemmas.{ended, stopped_by}
use Rattle.telegate.proofs.RunLemmas.{as_err}
use Rattle.telegate.proofs.replay.run.Goals as goal

pub returns-in_err-is_whole-clause-answer : goal.returns-in_err-is_whole-clause-answer
returns-in_err-is_whole-clause-answer g c =
    let known = g.R.Read.remaining c.args.text in
    let settings = c.args.config.now in
    let closing = c.args.course.now.closing in
    let old = g.W.Write.contents c.args.out.now in
    let new = g.W.Write.contents c.run_parts-ran.new.out in
    let fault = c.in_err-is_whole.field-0.0 in
    as_err (IsEndOf settings Lines false (Gives known) closing old new)
    c.from_residual-in_err-is_whole.result fault
    c.from_residual-in_err-is_whole.ensures.1
    (stopped_by Lines false closing settings known old new c.in_ok-gateway.gateway
    c.in_ok-gateway.ensures.begins fault
    c.in_err-is_whole.ensures.answer.0 c.in_err-is_whole.ensures.answer.1)

pub returns-clause-answer : goal.returns-clause-answer
returns-clause-answer g c =
    let known = g.R.Read.remaining c.args.text in
    let settings = c.args.config.now in
    let run = c.in_ok-is_whole.ensures.answer in
    let old = g.W.Write.contents c.args.out.now in
    let done = run.goes (setup_of settings) c.in_ok-gateway.ensures.begins tt in
    ended Lines false (Gives known) c.args.course.now.closing settings run.octets run.log run.lines
    old
    (g.W.Write.contents c.close.new.out)
    run.given done.faithful run.written c.run_parts-ran.new.gateway run.right run.events done.rests
    (c.steps_keep_their_order.ensures.settings settings run.log done.faithful)
    (c.nothing_is_lost.ensures (setup_of settings) run.log done.faithful) done.follows done.accounts
    c.close.result (c.close.ensures old run.lines run.poured)
