use Rattle.std.proofs.Common.{◌∙◌, sym, ap}
use Rattle.std.specs.Prelude.{slice_index}
use Rattle.elements.proofs.TypeCodes.{code-type_of}
use Rattle.asdu.specs.Asdu.{vsq}
use Rattle.asdu.specs.Reading.{value_of}
use Rattle.asdu.proofs.Pieces.{header-is}
use Rattle.asdu.proofs.writing.append_header.Goals as goal

pub returns : goal.returns
returns g c =
    let asdu = c.args.asdu.now in
    let head = c.head-head.ensures in
    let h = c.head-head.result in
    let code = code-type_of (slice_index asdu.octets.now 0) asdu.kind asdu.named in
    header-is c.args.sizes (value_of asdu) c.args.number h.kind c.vsq_octet.result h.cause
    h.originator h.ca
    c.args.out.now.items c.append.new.out.items c.append_originator.new.out.items
    c.append_ca.new.out.items
    (head.kind ∙ sym code)
    (c.vsq_octet.ensures ∙ ap (λ b. vsq b c.args.number) c.is_sequence.ensures)
    head.cause head.originator head.ca
    c.append.ensures c.append_originator.ensures c.append_ca.ensures
