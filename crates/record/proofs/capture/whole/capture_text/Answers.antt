use Rattle.std.proofs.Common.{◌++◌, List, ℕ, ap, refl, subst, sym, ◌∙◌}
use Rattle.std.specs.Option.{option_copied}
use Rattle.record.proofs.BlockLemmas.{AreOf}
use Rattle.traces.specs.Blocks.{Gives, Reading}
use Rattle.record.specs.Blocks.{file_header}
use Rattle.record.specs.Texts.{IsCaptureFault, IsCaptured}
use Rattle.record.specs.declared.capture.whole.CaptureFault.{CaptureFault}
use Rattle.record.specs.declared.capture.whole.CaptureFault.TheVariants.{NoMemory}
use Rattle.record.proofs.WholeLemmas.{as_err, captures_begin, captures_on, captures_over}
use Rattle.record.proofs.WholeLemmas.{captures_stop, captures_unread, header_cut, read_fault}
use Rattle.record.proofs.WholeLemmas.{unbegun}
use Rattle.record.proofs.capture.whole.capture_text.Goals as goal

pub returns-in_err-begin : goal.returns-in_err-begin
returns-in_err-begin g c =
    let known = g.R.Read.remaining c.args.text in
    let old = g.W.Write.contents c.args.out.now in
    as_err (IsCaptured c.args.link (Gives known) old old) c.from_residual.result NoMemory
    c.from_residual.ensures.1 (unbegun c.args.link known old)

pub returns-in_err-pour : goal.returns-in_err-pour
returns-in_err-pour g c =
    let known = g.R.Read.remaining c.args.text in
    let old = g.W.Write.contents c.args.out.now in
    let new = g.W.Write.contents c.pour.new.out in
    as_err (IsCaptured c.args.link (Gives known) old new) c.from_residual-in_err-pour.result
    c.in_err-pour.field-0.0 c.from_residual-in_err-pour.ensures.1
    (subst (λ (fault : CaptureFault). IsCaptureFault c.args.link (Gives known) old new fault)
    (sym c.in_err-pour.ensures.fault)
    (header_cut c.args.link known c.begin.new.page old new
    (c.in_ok-begin.ensures ∙ ap (λ (xs : List ℕ). xs ++ file_header) c.new-page.ensures)
    c.in_err-pour.ensures.begun))

pub capturing-init : goal.capturing-init
capturing-init g c = record {
  captures = captures_begin c.args.link (g.R.Read.remaining c.args.text)
      c.new-blocks.result.coming c.new-capture.result 1 c.begin.new.page
      (g.W.Write.contents c.args.out.now) (g.W.Write.contents c.pour.new.out)
      (ap (λ (r : Reading). r.coming) c.new-blocks.ensures) c.new-capture.ensures refl
      (c.in_ok-begin.ensures ∙ ap (λ (xs : List ℕ). xs ++ file_header) c.new-page.ensures)
      c.in_ok-pour.ensures.all;
  goes_on = ap (λ (r : Reading). r.is_over) c.new-blocks.ensures;
  clear = c.in_ok-pour.ensures.clear;
}

pub returns-in_err-advance : goal.returns-in_err-advance
returns-in_err-advance g c =
    let known = g.R.Read.remaining c.args.text in
    let old = g.W.Write.contents c.args.out.now in
    let mid = g.W.Write.contents c.capturing.out in
    as_err (IsCaptured c.args.link (Gives known) old mid) c.from_residual-in_err-advance.result
    c.in_err-advance.field-0.0 c.from_residual-in_err-advance.ensures.1
    (read_fault c.args.link known old mid c.in_err-advance.field-0.0 c.in_err-advance.ensures.fault
    (captures_unread c.args.link known c.capturing.blocks.coming c.capturing.capture
    c.capturing.next old mid c.capturing.invariant.captures))

pub returns-in_err-next : goal.returns-in_err-next
returns-in_err-next g c =
    let known = g.R.Read.remaining c.args.text in
    let old = g.W.Write.contents c.args.out.now in
    let mid = g.W.Write.contents c.capturing.out in
    let new = g.W.Write.contents c.capture_part.new.out in
    let part = option_copied c.part_of-part.result in
    let of : AreOf c.lines.result.now c.advance.new.blocks.is_over part = record {
      last = λ over. c.part_of-part.ensures.last (c.is_over.ensures ∙ over);
      other = λ goes. c.part_of-part.ensures.other (c.is_over.ensures ∙ goes);
    } in
    as_err (IsCaptured c.args.link (Gives known) old new) c.from_residual-in_err-next.result
    c.in_err-next.field-0.0 c.from_residual-in_err-next.ensures.1
    (captures_stop c.args.link known c.capturing.blocks.coming c.capturing.capture c.capturing.next
    old mid c.capturing.invariant.captures c.advance.new.blocks c.lines.result.now c.lines.ensures
    c.in_ok-advance.ensures.block part of new c.in_err-next.field-0.0 c.in_err-next.ensures.fault)

pub returns-then-is_over : goal.returns-then-is_over
returns-then-is_over g c =
    let known = g.R.Read.remaining c.args.text in
    let old = g.W.Write.contents c.args.out.now in
    let mid = g.W.Write.contents c.capturing.out in
    let written = g.W.Write.contents c.capture_part.new.out in
    let part = option_copied c.part_of-part.result in
    let of : AreOf c.lines.result.now c.advance.new.blocks.is_over part = record {
      last = λ over. c.part_of-part.ensures.last (c.is_over.ensures ∙ over);
      other = λ goes. c.part_of-part.ensures.other (c.is_over.ensures ∙ goes);
    } in
    captures_over c.args.link known c.capturing.blocks.coming c.capturing.capture c.capturing.next
    old mid c.capturing.invariant.captures c.advance.new.blocks c.lines.result.now c.lines.ensures
    c.in_ok-advance.ensures.block part of
    (sym c.is_over-in-capturing.ensures ∙ c.if-is_over.true) c.capture_part.new.capture
    c.in_ok-next.next written (g.W.Write.contents c.finish.new.out) c.finish.result
    c.in_ok-next.ensures.part c.finish.ensures.all c.finish.ensures.begun c.finish.ensures.fault

pub capturing-preserved : goal.capturing-preserved
capturing-preserved g c =
    let known = g.R.Read.remaining c.args.text in
    let old = g.W.Write.contents c.args.out.now in
    let mid = g.W.Write.contents c.capturing.out in
    let new = g.W.Write.contents c.capture_part.new.out in
    let part = option_copied c.part_of-part.result in
    let goes = sym c.is_over-in-capturing.ensures ∙ c.if-is_over.false in
    let of : AreOf c.lines.result.now c.advance.new.blocks.is_over part = record {
      last = λ over. c.part_of-part.ensures.last (c.is_over.ensures ∙ over);
      other = λ going. c.part_of-part.ensures.other (c.is_over.ensures ∙ going);
    } in
    record {
      captures = captures_on c.args.link known c.capturing.blocks.coming c.capturing.capture
          c.capturing.next old mid c.capturing.invariant.captures c.advance.new.blocks
          c.lines.result.now c.lines.ensures c.in_ok-advance.ensures.block part of goes
          c.capture_part.new.capture c.in_ok-next.next new c.in_ok-next.ensures.part;
      goes_on = goes;
      clear = c.in_ok-next.ensures.clear;
    }

pub returns : goal.returns
returns g c =
    captures_unread c.args.link (g.R.Read.remaining c.args.text) c.capturing.blocks.coming
    c.capturing.capture c.capturing.next (g.W.Write.contents c.args.out.now)
    (g.W.Write.contents c.capturing.out) c.capturing.invariant.captures
