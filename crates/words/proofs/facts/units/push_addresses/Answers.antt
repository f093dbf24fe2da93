use Rattle.std.proofs.Common.{rules, append_assoc}
use Rattle.words.proofs.facts.units.push_addresses.Goals as goal

pub returns : goal.returns
returns c =
    let originator = c.originator-originator.ensures in
    let ca = c.ca-ca.ensures in
    simp append_assoc (search rules)
