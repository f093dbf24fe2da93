use Rattle.std.proofs.Common.{ap, sym, ◌∙◌}
use Rattle.traces.specs.Blocks.{Reading}
use Rattle.telegate.proofs.RecordLemmas.{seeks_begin, seeks_found, seeks_last, seeks_on}
use Rattle.telegate.proofs.recorded.is_record.Goals as goal

pub seeking-init : goal.seeking-init
seeking-init g c = record {
  seeks = seeks_begin (g.R.Read.remaining c.args.text) c.new-blocks.result.coming
      (ap (λ (r : Reading). r.coming) c.new-blocks.ensures);
  goes_on = ap (λ (r : Reading). r.is_over) c.new-blocks.ensures;
}

pub returns-then-has_actions-clause-found : goal.returns-then-has_actions-clause-found
returns-then-has_actions-clause-found g c =
    seeks_found (g.R.Read.remaining c.args.text) c.seeking.blocks.coming
    c.seeking.invariant.seeks c.advance.new.blocks c.lines-lines.result.now
    c.lines-lines.ensures c.in_ok-advance.ensures.block
    (sym c.in_ok-has_actions.ensures ∙ c.if-has_actions.true)

pub returns-then-is_over-clause-found : goal.returns-then-is_over-clause-found
returns-then-is_over-clause-found g c =
    seeks_last (g.R.Read.remaining c.args.text) c.seeking.blocks.coming
    c.seeking.invariant.seeks c.advance.new.blocks c.lines-lines.result.now
    c.lines-lines.ensures c.in_ok-advance.ensures.block
    (sym c.is_over.ensures ∙ c.if-is_over.true)
    (sym c.in_ok-has_actions.ensures ∙ c.if-has_actions.false)

pub seeking-preserved : goal.seeking-preserved
seeking-preserved g c =
    let goes_on = sym c.is_over.ensures ∙ c.if-is_over.false in
    record {
      seeks = seeks_on (g.R.Read.remaining c.args.text) c.seeking.blocks.coming
          c.seeking.invariant.seeks c.advance.new.blocks c.lines-lines.result.now
          c.lines-lines.ensures c.in_ok-advance.ensures.block goes_on
          (sym c.in_ok-has_actions.ensures ∙ c.if-has_actions.false);
      goes_on = goes_on;
    }
