use Rattle.std.proofs.Common.{◌≡◌, ℕ, ◌++◌, List, subst, ap, ◌∙◌}
use Rattle.telegate.specs.Closing.{closing_lines}
use Rattle.telegate.specs.Printed.{IsClosedBy}
use Rattle.telegate.specs.declared.fault.Fault.TheVariants.{NoMemory}
use Rattle.traces.proofs.Poured.{poured_begun}
use Rattle.telegate.proofs.RunLemmas.{as_err}
use Rattle.telegate.proofs.replay.close.Goals as goal

pub returns : goal.returns
returns g c = λ before text poured.
    let closing : List ℕ = closing_lines c.args.closing.left c.args.closing.counts
    c.args.gateway.now in
    let lines : c.as_bytes.result.now ≡ closing = c.as_bytes.ensures.value
    ∙ c.in_ok-push_closing.ensures
    ∙ ap (λ (xs : List ℕ). xs ++ closing) c.new-lines.ensures.bytes in
    subst (λ (xs : List ℕ). IsClosedBy before
    (g.W.Write.contents c.print_closing.new.out) text xs c.print_closing.result)
    lines (c.print_closing.ensures before text poured)

pub returns-in_err-push_closing : goal.returns-in_err-push_closing
returns-in_err-push_closing g c = λ before text poured.
    let out = g.W.Write.contents c.args.out.now in
    let closing = closing_lines c.args.closing.left c.args.closing.counts c.args.gateway.now in
    as_err (IsClosedBy before out text closing) c.from_residual.result NoMemory
    c.from_residual.ensures.1 (poured_begun c.args.is_whole before out text poured)
