use Rattle.std.proofs.Common.{◌⊎◌, subst}
use Rattle.std.specs.Io.KnownBytes.{Keeps}
use Rattle.gateway.specs.Setups.{setup_of}
use Rattle.words.specs.Ladders.{IsLadder}
use Rattle.words.specs.declared.ladder.rungs.Style.{Style}
use Rattle.telegate.specs.Answers.{IsEndOf}
use Rattle.telegate.specs.Parts.{IsStoppedOver}
use Rattle.telegate.specs.Source.{Gives}
use Rattle.telegate.specs.declared.manner.Manner.TheVariants.{Words}
use Rattle.telegate.proofs.ReplayLemmas.{ended, stopped_by}
use Rattle.telegate.proofs.RunLemmas.{as_err}
use Rattle.telegate.proofs.in_words.run_in_words.Goals as goal

pub returns-in_err-is_whole : goal.returns-in_err-is_whole
returns-in_err-is_whole g c =
    let known = g.R.Read.remaining c.args.text in
    let settings = c.args.config.now in
    let manner = Words c.args.is_coloured in
    let closing = c.args.closing in
    let old = g.W.Write.contents c.args.out.now in
    let new = g.W.Write.contents c.write_parts.new.out in
    let fault = c.in_err-is_whole.field-0.0 in
    let began = c.in_ok-gateway.gateway in
    as_err (IsEndOf settings manner c.args.as_record (Gives known) closing old new)
    c.from_residual-in_err-is_whole.result fault
    c.from_residual-in_err-is_whole.ensures.1
    (stopped_by manner c.args.as_record closing settings known old new began
    c.in_ok-gateway.ensures.begins fault
    c.in_err-is_whole.ensures.0
    (subst (λ (s : Style). Keeps old new ⊎ IsStoppedOver (IsLadder s) c.args.as_record known began
    old new)
    c.style_of-style.ensures
    c.in_err-is_whole.ensures.1))

pub returns : goal.returns
returns g c =
    let known = g.R.Read.remaining c.args.text in
    let settings = c.args.config.now in
    let run = c.in_ok-is_whole.ensures in
    let old = g.W.Write.contents c.args.out.now in
    let done = run.goes (setup_of settings) c.in_ok-gateway.ensures.begins tt in
    ended (Words c.args.is_coloured) c.args.as_record (Gives known) c.args.closing settings
    run.octets run.log
    run.lines old
    (g.W.Write.contents c.close.new.out)
    run.given done.faithful (subst (λ (s : Style). IsLadder s run.log run.lines)
    c.style_of-style.ensures run.written)
    c.write_parts.new.gateway run.right run.events done.rests
    (c.steps_keep_their_order.ensures.settings settings run.log done.faithful)
    (c.nothing_is_lost.ensures (setup_of settings) run.log done.faithful) done.follows done.accounts
    c.close.result (c.close.ensures old run.lines run.poured)
