use Rattle.std.proofs.Common.{rules, append_assoc}
use Rattle.words.proofs.facts.units.push_structure.Goals as goal

pub returns : goal.returns
returns c =
    let kind = c.type_number-kind.ensures in
    let is_sequence = c.is_sequence.ensures in
    let sequence = c.flag-sequence.ensures in
    let number = c.number-number.ensures.counted in
    simp append_assoc (search rules)
