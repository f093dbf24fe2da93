use Rattle.std.proofs.Common.{rules, append_assoc}
use Rattle.words.proofs.facts.objects.push_content.Goals as goal

pub returns : goal.returns
returns c =
    let element = c.in_ok-element.ensures in
    let tag = c.in_ok-tag.ensures in
    simp append_assoc (search rules)
