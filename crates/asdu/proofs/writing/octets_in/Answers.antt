use Rattle.std.proofs.Common.{◌+◌, ◌∙◌, ap, sym}
use Rattle.asdu.specs.Sizes.{ioa_len, header_len}
use Rattle.asdu.specs.Refusals.{body_len}
use Rattle.asdu.specs.Reading.{value_of}
use Rattle.asdu.specs.Writing.{carried}
use Rattle.asdu.proofs.Accepted.{IsAsdu-value_of}
use Rattle.asdu.proofs.Pieces.{AreInfos-fitting, length-spelled}
use Rattle.asdu.proofs.writing.octets_in.Goals as goal

pub returns : goal.returns
returns c = λ addresses.
    let asdu = c.args.asdu.now in
    let sizes = c.args.sizes in
    let v = value_of asdu in
    let source = (IsAsdu-value_of asdu asdu.are_octets).value in
    let infos = AreInfos-fitting asdu.kind (ioa_len asdu.sizes.ioa)
    (ioa_len sizes.ioa) v.infos source.infos addresses in
    let long = length-spelled sizes (carried sizes v) source.some infos in
    let objects = c.body_octets.ensures.value
    ∙ ap (λ b. body_len asdu.kind (ioa_len sizes.ioa) b c.number.result) c.is_sequence.ensures
    ∙ ap (body_len asdu.kind (ioa_len sizes.ioa) v.sequence) c.number.ensures.counted in
    ap (λ h. h + c.body_octets.result) c.header.ensures.value
    ∙ ap (λ b. header_len sizes + b) objects ∙ sym long
