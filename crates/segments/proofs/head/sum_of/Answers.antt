use Rattle.std.proofs.Common.{Some, ap, ◌∙◌}
use Rattle.std.proofs.lemmas.Nat.{from_be_bytes-to_be_bytes_4}
use Rattle.std.specs.Int.{w32, from_be_bytes}
use Rattle.segments.proofs.HeadLemmas.{decoded_4}
use Rattle.segments.proofs.head.sum_of.Goals as goal

pub returns-in-Ok : goal.returns-in-Ok
returns-in-Ok c sum small is =
    let read = decoded_4 c.args.digits.now _ _ sum c.decode_to_slice.ensures.value is in
    ap Some (c.from_be_bytes.ensures
    ∙ (ap (from_be_bytes w32) read.1 ∙ from_be_bytes-to_be_bytes_4 sum small))

pub returns-in-Err : goal.returns-in-Err
returns-in-Err c sum small is =
    let read = decoded_4 c.args.digits.now _ _ sum c.decode_to_slice.ensures.value is in
    let ok = read.0 in cc (c.in-Err.is)
