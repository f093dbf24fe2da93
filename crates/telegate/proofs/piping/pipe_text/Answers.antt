use Rattle.std.proofs.Common.{ℕ, List, inr, refl, ap, sym, subst, string_bytes, ◌∙◌}
use Rattle.std.specs.Io.KnownBytes.{Appends}
use Rattle.traces.specs.Blocks.{Reading}
use Rattle.sim.specs.Runs.{IsBegun}
use Rattle.telegate.specs.Piping.{Pipes}
use Rattle.telegate.specs.Source.{Gives}
use Rattle.telegate.specs.declared.fault.Fault.TheVariants.{NoMemory}
use Rattle.telegate.proofs.PipeLemmas.{pipe_wanted, pipes_all, pipes_begin, pipes_cut, pipes_on}
use Rattle.telegate.proofs.PipeLemmas.{some_piped}
use Rattle.telegate.proofs.RunLemmas.{as_err}
use Rattle.telegate.proofs.piping.pipe_text.Goals as goal

pub piping-init : goal.piping-init
piping-init g c = record {
  run = pipes_begin c.args.piped c.args.words (g.R.Read.remaining c.args.text)
      c.new-blocks.result.coming
      (g.W.Write.contents c.args.out.now) (ap (λ (r : Reading). r.coming) c.new-blocks.ensures);
  goes_on = ap (λ (r : Reading). r.is_over) c.new-blocks.ensures;
}

pub returns-in_err-advance : goal.returns-in_err-advance
returns-in_err-advance g c =
    let known = g.R.Read.remaining c.args.text in
    let old = g.W.Write.contents c.args.out.now in
    let new = g.W.Write.contents c.piping.out in
    let fault = c.in_err-advance.field-0.0 in
    as_err (Pipes c.args.piped c.args.words (Gives known) old new) c.from_residual.result fault
    c.from_residual.ensures.1
    (pipe_wanted c.args.piped c.args.words (Gives known) old new fault
    c.in_err-advance.ensures.fault
    (inr (some_piped c.args.piped c.args.words known c.piping.blocks.coming c.piping.condition old
    new
    c.piping.invariant.run)))

pub returns-in_err-shown : goal.returns-in_err-shown
returns-in_err-shown g c =
    let known = g.R.Read.remaining c.args.text in
    let old = g.W.Write.contents c.args.out.now in
    let new = g.W.Write.contents c.piping.out in
    let fault = c.in_err-shown.field-0.0 in
    as_err (Pipes c.args.piped c.args.words (Gives known) old new)
    c.from_residual-in_err-shown.result fault
    c.from_residual-in_err-shown.ensures.1
    (pipe_wanted c.args.piped c.args.words (Gives known) old new fault c.in_err-shown.ensures.fault
    (inr (some_piped c.args.piped c.args.words known c.piping.blocks.coming c.piping.condition old
    new
    c.piping.invariant.run)))

pub returns-in-Err : goal.returns-in-Err
returns-in-Err g c =
    let mid = g.W.Write.contents c.piping.out in
    let new = g.W.Write.contents c.print.new.out in
    let shown = c.in_ok-shown.shown in
    pipes_cut c.args.piped c.args.words (g.R.Read.remaining c.args.text) c.piping.blocks.coming
    c.piping.condition
    (g.W.Write.contents c.args.out.now) mid c.piping.invariant.run c.advance.new.blocks
    c.lines-lines.result.now
    c.lines-lines.ensures c.in_ok-advance.ensures.block (string_bytes shown.lines) shown.condition _
    new
    c.in_ok-shown.ensures.shown refl
    (subst (λ (xs : List ℕ). IsBegun mid new xs) c.as_bytes.ensures.value c.in-Err.ensures.begun)

pub returns-then-is_over : goal.returns-then-is_over
returns-then-is_over g c =
    let mid = g.W.Write.contents c.piping.out in
    let new = g.W.Write.contents c.print.new.out in
    let shown = c.in_ok-shown.shown in
    pipes_all c.args.piped c.args.words (g.R.Read.remaining c.args.text) c.piping.blocks.coming
    c.piping.condition
    (g.W.Write.contents c.args.out.now) mid c.piping.invariant.run c.advance.new.blocks
    c.lines-lines.result.now
    c.lines-lines.ensures c.in_ok-advance.ensures.block (string_bytes shown.lines) shown.condition
    c.both-condition.result new
    c.in_ok-shown.ensures.shown c.both-condition.ensures (sym c.is_over.ensures ∙ c.if-is_over.true)
    (subst (λ (xs : List ℕ). Appends mid new xs) c.as_bytes.ensures.value c.in-Ok.ensures.all)

pub piping-preserved : goal.piping-preserved
piping-preserved g c =
    let goes_on = sym c.is_over.ensures ∙ c.if-is_over.false in
    let mid = g.W.Write.contents c.piping.out in
    let new = g.W.Write.contents c.print.new.out in
    let shown = c.in_ok-shown.shown in
    record {
      run = pipes_on c.args.piped c.args.words (g.R.Read.remaining c.args.text)
          c.piping.blocks.coming c.piping.condition
          (g.W.Write.contents c.args.out.now) mid c.piping.invariant.run c.advance.new.blocks
          c.lines-lines.result.now
          c.lines-lines.ensures c.in_ok-advance.ensures.block (string_bytes shown.lines)
          shown.condition
          c.both-condition.result new c.in_ok-shown.ensures.shown c.both-condition.ensures goes_on
          (subst (λ (xs : List ℕ). Appends mid new xs) c.as_bytes.ensures.value
          c.in-Ok.ensures.all);
      goes_on = goes_on;
    }

pub returns : goal.returns
returns g c =
    let known = g.R.Read.remaining c.args.text in
    pipe_wanted c.args.piped c.args.words (Gives known) (g.W.Write.contents c.args.out.now)
    (g.W.Write.contents c.piping.out) NoMemory tt
    (inr (some_piped c.args.piped c.args.words known c.piping.blocks.coming c.piping.condition
    (g.W.Write.contents c.args.out.now) (g.W.Write.contents c.piping.out) c.piping.invariant.run))
