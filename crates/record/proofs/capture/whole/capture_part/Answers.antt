use Rattle.std.proofs.Common.{map, sym, subst}
use Rattle.std.specs.Option.{option_copied}
use Rattle.std.specs.Prelude.{IfErr}
use Rattle.traces.specs.Fields.{parts_after}
use Rattle.record.specs.Texts.{ArePassed, IsPartFault, kept_line}
use Rattle.record.specs.declared.capture.passing.Passed.{Passed}
use Rattle.record.specs.declared.capture.whole.CaptureFault.{CaptureFault}
use Rattle.record.proofs.WholeLemmas.{as_err, part_cut}
use Rattle.record.proofs.capture.whole.capture_part.Goals as goal

pub returns-in_err-pour-in-All-clause-fault : goal.returns-in_err-pour-in-All-clause-fault
returns-in_err-pour-in-All-clause-fault g c =
    let first = c.args.first in
    let capture = c.args.capture.now in
    let lines = map kept_line (parts_after 10 (option_copied c.args.part)) in
    let old = g.W.Write.contents c.args.out.now in
    let new = g.W.Write.contents c.pour.new.out in
    as_err (λ r. IfErr r (IsPartFault first capture lines old new))
    c.from_residual-in_err-pour-in-All.result c.in_err-pour-in-All.field-0.0
    c.from_residual-in_err-pour-in-All.ensures.1
    (subst (λ (fault : CaptureFault). IsPartFault first capture lines old new fault)
    (sym c.in_err-pour-in-All.ensures.fault)
    (part_cut first capture c.put_lines.new.capture lines c.args.page.now c.put_lines.new.page
    old new c.requires c.in-All.next
    (subst (λ (p : Passed). ArePassed first capture lines c.args.page.now c.put_lines.new.page
    c.put_lines.new.capture p) c.in-All.is c.in_ok-next.ensures)
    c.in_err-pour-in-All.ensures.begun))
