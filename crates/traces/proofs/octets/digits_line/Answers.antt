use Rattle.std.proofs.Common.{◌+◌, ◌∷◌, take, ap, ◌∙◌, sym, arith}
use Rattle.std.proofs.lemmas.List.{take_rest}
use Rattle.traces.specs.Trace.{lines_of}
use Rattle.traces.proofs.DigitLineLemmas.{line_whole, line_ended, line_other}
use Rattle.traces.proofs.octets.digits_line.Goals as goal

pub returns-then-end-text : goal.returns-then-end-text
returns-then-end-text c = line_whole c.args.text.now c.args.end c.requires c.if-end-text.true

pub returns-then-text-end-eq-LINE_FEED : goal.returns-then-text-end-eq-LINE_FEED
returns-then-text-end-eq-LINE_FEED c =
    let text = c.args.text.now in
    let end = c.args.end in
    let lines =
    line_ended text end c.requires (omega (arith, c.requires.within, c.if-end-text.false))
    c.if-text-end-eq-LINE_FEED.true
    ∙ ap (λ rest. take end text ∷ lines_of rest) (sym (take_rest text (end + 1))) in
    (lines, c.requires.digits)

pub returns : goal.returns
returns c =
    line_other c.args.text.now c.args.end c.requires
    (omega (arith, c.requires.within, c.if-end-text.false))
    c.if-text-end-eq-LINE_FEED.false
