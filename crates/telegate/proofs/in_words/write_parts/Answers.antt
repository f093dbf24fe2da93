use Rattle.std.proofs.Common.{Bool, ap, sym, subst, inl, inr, ◌∙◌}
use Rattle.traces.specs.Blocks.{Reading}
use Rattle.words.specs.Ladders.{IsLadder}
use Rattle.words.specs.declared.ladder.rungs.Style.{Style}
use Rattle.telegate.specs.Parts.{IsPartRead, IsPartStopped, RunsOver}
use Rattle.telegate.specs.InWords.{HasWritten}
use Rattle.telegate.proofs.PartLemmas.{ran_to, block_run, all_run, block_left}
use Rattle.telegate.proofs.RunLemmas.{as_err}
use Rattle.telegate.proofs.InWordsLemmas.{text_begins}
use Rattle.telegate.specs.declared.fault.Fault.TheVariants.{NoMemory}
use Rattle.telegate.proofs.in_words.write_parts.Goals as goal

pub writing-init : goal.writing-init
writing-init g c = record {
  run = text_begins c.args.style c.args.as_record (g.R.Read.remaining c.args.text)
      c.new-blocks.result.coming c.args.gateway.now
      c.pause_before-pause.result c.new-scribe.result (g.W.Write.contents c.args.out.now)
      (ap (λ (r : Reading). r.coming) c.new-blocks.ensures) c.pause_before-pause.ensures
      c.new-scribe.ensures;
  goes_on = ap (λ (r : Reading). r.is_over) c.new-blocks.ensures;
}

pub returns-in_err-advance : goal.returns-in_err-advance
returns-in_err-advance g c =
    let known = g.R.Read.remaining c.args.text in
    let old = g.W.Write.contents c.args.out.now in
    let new = g.W.Write.contents c.writing.out in
    let is_text = IsLadder c.args.style in
    as_err (RunsOver is_text c.args.as_record known c.args.gateway.now c.writing.gateway old new)
    c.from_residual.result
    c.in_err-advance.field-0.0 c.from_residual.ensures.1 (
      c.in_err-advance.ensures.fault,
      ran_to is_text c.args.as_record known c.writing.blocks.coming c.args.gateway.now
          c.writing.gateway c.writing.pause c.writing.is_whole
          old new c.writing.invariant.run.run,
    )

pub returns-in_err-read : goal.returns-in_err-read
returns-in_err-read g c =
    let known = g.R.Read.remaining c.args.text in
    let old = g.W.Write.contents c.args.out.now in
    let new = g.W.Write.contents c.writing.out in
    let is_text = IsLadder c.args.style in
    as_err (RunsOver is_text c.args.as_record known c.args.gateway.now c.writing.gateway old new)
    c.from_residual-in_err-read.result
    NoMemory c.from_residual-in_err-read.ensures.1 (
      tt,
      ran_to is_text c.args.as_record known c.writing.blocks.coming c.args.gateway.now
          c.writing.gateway c.writing.pause c.writing.is_whole
          old new c.writing.invariant.run.run,
    )

pub returns-in_err-pause : goal.returns-in_err-pause
returns-in_err-pause g c =
    let known = g.R.Read.remaining c.args.text in
    let old = g.W.Write.contents c.args.out.now in
    let mid = g.W.Write.contents c.writing.out in
    let new = g.W.Write.contents c.write_part.new.out in
    let is_text = IsLadder c.args.style in
    let lines = c.lines-lines.result.now in
    let part = c.in_ok-read.read.now in
    as_err (RunsOver is_text c.args.as_record known c.args.gateway.now c.write_part.new.gateway old
    new)
    c.from_residual-in_err-pause.result
    c.in_err-pause.field-0.0 c.from_residual-in_err-pause.ensures.1 (
      c.in_err-pause.ensures.stopped,
      block_left is_text c.args.as_record known c.writing.blocks.coming c.args.gateway.now
          c.writing.gateway
          c.writing.pause
          c.writing.is_whole old mid c.writing.invariant.run.run c.advance.new.blocks
          lines part
          c.lines-lines.ensures c.in_ok-advance.ensures.block
          (subst (λ (o : Bool). IsPartRead c.args.as_record lines o part) c.is_over-is_last.ensures
          c.in_ok-read.ensures) new
          (elim c.in_err-pause.ensures.begun [
            | inl unchanged ↦ inl (ap g.W.Write.contents unchanged)
            | inr stop ↦ inr (subst
                (λ (st : Style). IsPartStopped (IsLadder st) c.writing.pause
                part c.writing.gateway old new)
                c.writing.invariant.run.written.style_is (stop old c.writing.invariant.run.poured))
          ]),
    )

pub returns-then-is_over : goal.returns-then-is_over
returns-then-is_over g c =
    let known = g.R.Read.remaining c.args.text in
    let old = g.W.Write.contents c.args.out.now in
    let mid = g.W.Write.contents c.writing.out in
    let new = g.W.Write.contents c.write_part.new.out in
    let lines = c.lines-lines.result.now in
    let part = c.in_ok-read.read.now in
    let run = c.writing.invariant.run in
    let written : HasWritten c.args.style c.in_ok-pause.field-0-0.log c.in_ok-pause.field-0-1 =
    subst (λ (st : Style). HasWritten st c.in_ok-pause.field-0-0.log c.in_ok-pause.field-0-1)
    run.written.style_is
    c.in_ok-pause.ensures.written in
    all_run (IsLadder c.args.style) c.args.as_record known c.writing.blocks.coming
    c.args.gateway.now
    c.writing.gateway c.writing.pause
    c.writing.is_whole old mid run.run
    c.advance.new.blocks lines part c.lines-lines.ensures
    c.in_ok-advance.ensures.block
    (subst (λ (o : Bool). IsPartRead c.args.as_record lines o part) c.is_over-is_last.ensures
    c.in_ok-read.ensures)
    c.write_part.new.gateway c.in_ok-pause.field-0-0 c.in_ok-pause.field-0-2 new
    c.in_ok-pause.ensures.run c.in_ok-pause.field-0-1.logged written.written
    (c.in_ok-pause.ensures.printed old run.poured) (sym c.is_over.ensures ∙ c.if-is_over.true)

pub writing-preserved : goal.writing-preserved
writing-preserved g c =
    let goes_on = sym c.is_over.ensures ∙ c.if-is_over.false in
    let known = g.R.Read.remaining c.args.text in
    let old = g.W.Write.contents c.args.out.now in
    let mid = g.W.Write.contents c.writing.out in
    let new = g.W.Write.contents c.write_part.new.out in
    let lines = c.lines-lines.result.now in
    let part = c.in_ok-read.read.now in
    let run = c.writing.invariant.run in
    let written : HasWritten c.args.style c.in_ok-pause.field-0-0.log c.in_ok-pause.field-0-1 =
    subst (λ (st : Style). HasWritten st c.in_ok-pause.field-0-0.log c.in_ok-pause.field-0-1)
    run.written.style_is
    c.in_ok-pause.ensures.written in
    let poured = c.in_ok-pause.ensures.printed old run.poured in
    record {
      run = record {
        run = block_run (IsLadder c.args.style) c.args.as_record known c.writing.blocks.coming
            c.args.gateway.now
            c.writing.gateway
            c.writing.pause c.writing.is_whole old mid run.run
            c.advance.new.blocks lines part c.lines-lines.ensures
            c.in_ok-advance.ensures.block
            (subst (λ (o : Bool). IsPartRead c.args.as_record lines o part)
            c.is_over-is_last.ensures c.in_ok-read.ensures)
            c.write_part.new.gateway c.in_ok-pause.field-0-0
            c.in_ok-pause.field-0-2
            new c.in_ok-pause.ensures.run c.in_ok-pause.field-0-1.logged written.written
            poured goes_on;
        written = written;
        poured = poured;
      };
      goes_on = goes_on;
    }

pub returns : goal.returns
returns g c = (
  tt,
  ran_to (IsLadder c.args.style) c.args.as_record (g.R.Read.remaining c.args.text)
      c.writing.blocks.coming
      c.args.gateway.now
      c.writing.gateway c.writing.pause c.writing.is_whole (g.W.Write.contents c.args.out.now)
      (g.W.Write.contents c.writing.out) c.writing.invariant.run.run,
)

pub write_part-requires : goal.write_part-requires
write_part-requires g c =
    let run = c.writing.invariant.run in
    record {
      clear = run.run.clear;
      written = subst (λ (st : Style). HasWritten st c.writing.pause.log c.writing.scribe)
          (sym run.written.style_is)
          run.written;
    }
