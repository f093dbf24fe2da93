use Rattle.std.proofs.Common.{append_assoc, w64}
use Rattle.std.proofs.lemmas.Int.{to_z-of_z}
use Rattle.words.proofs.facts.objects.push_value.Goals as goal

pub returns : goal.returns
returns c =
    let same = to_z-of_z w64 c.args.value c.ranges.value in
    simp append_assoc (rw same at c.write.ensures.bytes)
