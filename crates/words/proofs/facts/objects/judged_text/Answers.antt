use Rattle.std.proofs.Common.{rules, append_assoc}
use Rattle.words.proofs.facts.objects.judged_text.Goals as goal

pub returns : goal.returns
returns c = let d = c.in_ok-digits.ensures in let v = c.in_ok-verdict.ensures in
    let t = c.tag_of.ensures
    in let j = c.judge.ensures in simp append_assoc (search rules)
