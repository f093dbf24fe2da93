use Rattle.std.proofs.Common.{◌-◌, ◌++◌, [], ◌∷◌, length, take, drop, ap, ◌∙◌, arith}
use Rattle.std.specs.Prelude.{slice_index}
use Rattle.elements.proofs.TypeCodes.{code-type_of}
use Rattle.asdu.specs.Sizes.{ioa_len, header_len}
use Rattle.asdu.specs.Fields.{number_at, is_sequence}
use Rattle.asdu.proofs.Spelling.{length-infos_at}
use Rattle.asdu.specs.Reading.{value_of}
use Rattle.asdu.proofs.Accepted.{IsAsdu-value_of}
use Rattle.asdu.proofs.Tags.{IsAsdu-untagged, untagged_row}
use Rattle.asdu.proofs.tagging.untag.Goals as goal

pub overflow_sub-asdu : goal.overflow_sub-asdu
overflow_sub-asdu c =
    let asdu = c.args.asdu.now in
    let code = code-type_of (slice_index asdu.octets.now 0) asdu.kind asdu.named in
    let u = untagged_row asdu.kind c.requires.kind in
    let e = u.code in
    omega arith

pub returns : goal.returns
returns c =
    let asdu = c.args.asdu.now in
    let spells = IsAsdu-value_of asdu asdu.are_octets in
    let xs = asdu.octets.now in
    let first = slice_index xs 0 - 13 in
    let rest = take (length xs - 7 - 1) (drop 1 xs) in
    let count = length-infos_at asdu.kind (ioa_len asdu.sizes.ioa) (is_sequence xs) (number_at xs)
    (drop (header_len asdu.sizes) xs) in
    let text = c.append-2.ensures ∙ ap (λ ys. ys ++ rest) (c.append.ensures
    ∙ ap (λ ys. ys ++ first ∷ []) c.new-out.ensures) in
    IsAsdu-untagged asdu.sizes (value_of asdu) xs c.append-2.new.out.items spells (count
    ∙ c.requires.one) c.requires.kind text
