use Rattle.std.proofs.Common.{w64}
use Rattle.std.proofs.lemmas.Int.{to_z-of_z}
use Rattle.words.proofs.numbers.push_signed.Goals as goal

pub returns : goal.returns
returns c =
    let same = to_z-of_z w64 c.args.number c.ranges.number in
    rw same at c.write.ensures.bytes
