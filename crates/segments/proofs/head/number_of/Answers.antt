use Rattle.std.proofs.Common.{Some, ap, ◌∙◌}
use Rattle.std.proofs.lemmas.Nat.{from_be_bytes-to_be_bytes_8}
use Rattle.std.specs.Int.{w64, from_be_bytes}
use Rattle.segments.proofs.HeadLemmas.{decoded_8}
use Rattle.segments.proofs.head.number_of.Goals as goal

pub returns-in-Ok : goal.returns-in-Ok
returns-in-Ok c number small is =
    let read = decoded_8 c.args.digits.now _ _ number c.decode_to_slice.ensures.value is in
    ap Some (c.from_be_bytes.ensures
    ∙ (ap (from_be_bytes w64) read.1 ∙ from_be_bytes-to_be_bytes_8 number small))

pub returns-in-Err : goal.returns-in-Err
returns-in-Err c number small is =
    let read = decoded_8 c.args.digits.now _ _ number c.decode_to_slice.ensures.value is in
    let ok = read.0 in cc (c.in-Err.is)
