use Rattle.std.proofs.Common.{Bool, subst, sym, ◌∙◌}
use Rattle.telegate.specs.Parts.{IsJudged, IsPartRead}
use Rattle.telegate.proofs.PartLemmas.{judged_all, judged_block, judged_fault}
use Rattle.telegate.proofs.RunLemmas.{as_err}
use Rattle.telegate.proofs.replay.judge_text.Goals as goal

pub returns-in_err-next : goal.returns-in_err-next
returns-in_err-next g c =
    let lines = c.lines-lines.result.now in
    let part = c.in_ok-read.read.now in
    as_err (IsJudged c.args.as_record (g.R.Read.remaining c.args.text))
    c.from_residual-in_err-next.result
    c.in_err-next.field-0.0 c.from_residual-in_err-next.ensures.1
    (judged_fault c.args.as_record (g.R.Read.remaining c.args.text) c.judging.blocks.coming
    c.judging.next c.judging.invariant.judged
    c.advance.new.blocks lines part c.lines-lines.ensures
    c.in_ok-advance.ensures.block
    (subst (λ (o : Bool). IsPartRead c.args.as_record lines o part) c.is_over-is_last.ensures
    c.in_ok-read.ensures)
    c.in_err-next.field-0.0 c.in_err-next.ensures.fault)

pub returns-then-is_over : goal.returns-then-is_over
returns-then-is_over g c =
    let lines = c.lines-lines.result.now in
    let part = c.in_ok-read.read.now in
    judged_all c.args.as_record (g.R.Read.remaining c.args.text) c.judging.blocks.coming
    c.judging.next c.judging.invariant.judged
    c.advance.new.blocks lines part c.lines-lines.ensures
    c.in_ok-advance.ensures.block
    (subst (λ (o : Bool). IsPartRead c.args.as_record lines o part) c.is_over-is_last.ensures
    c.in_ok-read.ensures)
    c.in_ok-next.next (sym c.is_over.ensures ∙ c.if-is_over.true) c.in_ok-next.ensures.right

pub judging-preserved : goal.judging-preserved
judging-preserved g c =
    let goes_on = sym c.is_over.ensures ∙ c.if-is_over.false in
    let lines = c.lines-lines.result.now in
    let part = c.in_ok-read.read.now in
    record {
      judged = judged_block c.args.as_record (g.R.Read.remaining c.args.text)
          c.judging.blocks.coming c.judging.next
          c.judging.invariant.judged c.advance.new.blocks lines part
          c.lines-lines.ensures
          c.in_ok-advance.ensures.block
          (subst (λ (o : Bool). IsPartRead c.args.as_record lines o part)
          c.is_over-is_last.ensures c.in_ok-read.ensures)
          c.in_ok-next.next goes_on c.in_ok-next.ensures.right;
      goes_on = goes_on;
    }
