use Rattle.std.proofs.Common.{false, refl, ap, sym, inl, inr, ◌∙◌}
use Rattle.traces.specs.Blocks.{Reading}
use Rattle.telegate.specs.Parts.{RunsOver}
use Rattle.traces.specs.Actions.{lines_of_actions}
use Rattle.telegate.specs.Manners.{AreLines}
use Rattle.telegate.proofs.PartLemmas.{runs_begin, ran_to, block_run, all_run, block_left}
use Rattle.telegate.proofs.PartLemmas.{poured_lines, trace_part}
use Rattle.telegate.proofs.RunLemmas.{as_err}
use Rattle.telegate.proofs.replay.run_parts.Goals as goal

pub running-init : goal.running-init
running-init g c = record {
  run = runs_begin AreLines false (g.R.Read.remaining c.args.text) c.new-blocks.result.coming
      c.args.gateway.now c.new-pause.result
      (g.W.Write.contents c.args.out.now) (ap (λ (r : Reading). r.coming) c.new-blocks.ensures)
      c.new-pause.ensures refl;
  goes_on = ap (λ (r : Reading). r.is_over) c.new-blocks.ensures;
  unwatched = λ unwatched. refl;
}

pub returns-in_err-advance-clause-answer : goal.returns-in_err-advance-clause-answer
returns-in_err-advance-clause-answer g c =
    let known = g.R.Read.remaining c.args.text in
    let old = g.W.Write.contents c.args.out.now in
    let new = g.W.Write.contents c.running.out in
    as_err (RunsOver AreLines false known c.args.gateway.now c.running.gateway old new)
    c.from_residual.result c.in_err-advance.field-0.0
    c.from_residual.ensures.1 (
      c.in_err-advance.ensures.fault,
      ran_to AreLines false known c.running.blocks.coming c.args.gateway.now c.running.gateway
          c.running.pause c.running.is_whole old new
          c.running.invariant.run,
    )

pub returns-in_err-pause-clause-answer : goal.returns-in_err-pause-clause-answer
returns-in_err-pause-clause-answer g c =
    let known = g.R.Read.remaining c.args.text in
    let old = g.W.Write.contents c.args.out.now in
    let mid = g.W.Write.contents c.running.out in
    let new = g.W.Write.contents c.run_part.new.out in
    as_err (RunsOver AreLines false known c.args.gateway.now c.run_part.new.gateway old new)
    c.from_residual-in_err-pause.result
    c.in_err-pause.field-0.0 c.from_residual-in_err-pause.ensures.1 (
      c.in_err-pause.ensures.stopped,
      block_left AreLines false known c.running.blocks.coming c.args.gateway.now c.running.gateway
          c.running.pause c.running.is_whole old
          mid c.running.invariant.run c.advance.new.blocks c.lines-lines.result.now
          c.lines-lines.result.now c.lines-lines.ensures c.in_ok-advance.ensures.block
          (trace_part c.lines-lines.result.now c.advance.new.blocks.is_over) new
          (elim c.in_err-pause.ensures.begun [
            | inl unchanged ↦ inl (ap g.W.Write.contents unchanged)
            | inr stop ↦
                inr
                (stop old (poured_lines known c.running.blocks.coming c.args.gateway.now
                c.running.gateway
                c.running.pause c.running.is_whole old mid c.running.invariant.run))
          ]),
    )

pub returns-then-is_over-clause-answer : goal.returns-then-is_over-clause-answer
returns-then-is_over-clause-answer g c =
    let known = g.R.Read.remaining c.args.text in
    let old = g.W.Write.contents c.args.out.now in
    let mid = g.W.Write.contents c.running.out in
    let run = c.running.invariant.run in
    all_run AreLines false known c.running.blocks.coming c.args.gateway.now c.running.gateway
    c.running.pause
    c.running.is_whole old mid run
    c.advance.new.blocks c.lines-lines.result.now c.lines-lines.result.now c.lines-lines.ensures
    c.in_ok-advance.ensures.block
    (trace_part c.lines-lines.result.now c.advance.new.blocks.is_over)
    c.run_part.new.gateway c.in_ok-pause.field-0-0 c.in_ok-pause.field-0-1
    (g.W.Write.contents c.run_part.new.out)
    c.in_ok-pause.ensures.run (lines_of_actions c.in_ok-pause.field-0-0.log) refl
    (c.in_ok-pause.ensures.printed old (poured_lines known c.running.blocks.coming
    c.args.gateway.now c.running.gateway
    c.running.pause c.running.is_whole old mid run)) (sym c.is_over.ensures ∙ c.if-is_over.true)

pub running-preserved : goal.running-preserved
running-preserved g c =
    let goes_on = sym c.is_over.ensures ∙ c.if-is_over.false in
    let known = g.R.Read.remaining c.args.text in
    let old = g.W.Write.contents c.args.out.now in
    let mid = g.W.Write.contents c.running.out in
    record {
      run = block_run AreLines false known c.running.blocks.coming c.args.gateway.now
          c.running.gateway
          c.running.pause c.running.is_whole old mid c.running.invariant.run
          c.advance.new.blocks c.lines-lines.result.now c.lines-lines.result.now
          c.lines-lines.ensures c.in_ok-advance.ensures.block
          (trace_part c.lines-lines.result.now c.advance.new.blocks.is_over) c.run_part.new.gateway
          c.in_ok-pause.field-0-0
          c.in_ok-pause.field-0-1
          (g.W.Write.contents c.run_part.new.out) c.in_ok-pause.ensures.run
          (lines_of_actions c.in_ok-pause.field-0-0.log) refl
          (c.in_ok-pause.ensures.printed old (poured_lines known c.running.blocks.coming
          c.args.gateway.now
          c.running.gateway c.running.pause c.running.is_whole old mid c.running.invariant.run))
          goes_on;
      goes_on = goes_on;
      unwatched = λ unwatched. c.show_progress.ensures unwatched ∙ c.in_ok-pause.ensures.unwatched
          ∙ c.running.invariant.unwatched unwatched;
    }

pub returns-clause-answer : goal.returns-clause-answer
returns-clause-answer g c = (
  tt,
  ran_to AreLines false (g.R.Read.remaining c.args.text) c.running.blocks.coming c.args.gateway.now
      c.running.gateway c.running.pause
      c.running.is_whole (g.W.Write.contents c.args.out.now) (g.W.Write.contents c.running.out)
      c.running.invariant.run,
)
