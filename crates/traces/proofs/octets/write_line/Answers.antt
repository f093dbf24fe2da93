use Rattle.std.proofs.Common.{◌≡◌, ℕ, ◌+◌, ◌*◌, ap, drop, sym, subst, ◌∙◌, arith}
use Rattle.std.proofs.lemmas.List.{take_all, take_rest}
use Rattle.traces.specs.FirstLines.{ArePairs, first_of}
use Rattle.traces.specs.Trace.{lines_of}
use Rattle.traces.proofs.PairLemmas.{line_goes_on, line_is_ended, line_is_whole, line_octets}
use Rattle.traces.proofs.PairLemmas.{no_pair}
use Rattle.traces.proofs.octets.write_line.Goals as goal

pub returns-then-end-eq0-clause-octets : goal.returns-then-end-eq0-clause-octets
returns-then-end-eq0-clause-octets c =
    let zero : c.write_pairs-len.result ≡ 0 = omega (arith, c.if-end-eq0.true) in
    sym (no_pair c.args.text.now c.write_pairs-len.new.buf
    (subst (λ (n : ℕ). ArePairs c.args.text.now c.write_pairs-len.new.buf n) zero
    c.write_pairs-len.ensures))

pub returns-then-end-text-clause-octets : goal.returns-then-end-text-clause-octets
returns-then-end-text-clause-octets c =
    let text = c.args.text.now in
    let n = c.write_pairs-len.result in
    let lines = line_is_whole text c.write_pairs-len.new.buf n c.write_pairs-len.ensures
    c.if-end-text.true in
    sym (line_octets text c.write_pairs-len.new.buf n c.write_pairs-len.ensures
    (omega (arith, c.if-end-eq0.false))
    (ap first_of lines ∙ sym (take_all (2 * n) text (omega (arith, c.if-end-text.true)))))

pub returns-then-end-text-clause-rest : goal.returns-then-end-text-clause-rest
returns-then-end-text-clause-rest c =
    ap (drop 1) (line_is_whole c.args.text.now c.write_pairs-len.new.buf c.write_pairs-len.result
    c.write_pairs-len.ensures c.if-end-text.true)

pub returns-then-text-end-eq-LINE_FEED-clause-octets :
    goal.returns-then-text-end-eq-LINE_FEED-clause-octets
returns-then-text-end-eq-LINE_FEED-clause-octets c =
    let text = c.args.text.now in
    let n = c.write_pairs-len.result in
    let lines =
    line_is_ended text c.write_pairs-len.new.buf n c.write_pairs-len.ensures
    (omega (arith, c.write_pairs-len.ensures.within, c.if-end-text.false))
    c.if-text-end-eq-LINE_FEED.true in
    sym (line_octets text c.write_pairs-len.new.buf n c.write_pairs-len.ensures
    (omega (arith, c.if-end-eq0.false))
    (ap first_of lines))

pub returns-then-text-end-eq-LINE_FEED-clause-rest :
    goal.returns-then-text-end-eq-LINE_FEED-clause-rest
returns-then-text-end-eq-LINE_FEED-clause-rest c =
    let text = c.args.text.now in
    let n = c.write_pairs-len.result in
    ap (drop 1) (line_is_ended text c.write_pairs-len.new.buf n c.write_pairs-len.ensures
    (omega (arith, c.write_pairs-len.ensures.within, c.if-end-text.false))
    c.if-text-end-eq-LINE_FEED.true)
    ∙ ap lines_of (sym (take_rest text (2 * n + 1)))

pub returns-clause-octets : goal.returns-clause-octets
returns-clause-octets c =
    sym (line_goes_on c.args.text.now c.write_pairs-len.new.buf c.write_pairs-len.result
    c.write_pairs-len.ensures
    (omega (arith, c.write_pairs-len.ensures.within, c.if-end-text.false))
    c.if-text-end-eq-LINE_FEED.false)
