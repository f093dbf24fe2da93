use Rattle.std.proofs.Common.{rules, append_assoc}
use Rattle.words.proofs.facts.control.control_text.Goals as goal

pub returns-in-Primary : goal.returns-in-Primary
returns-in-Primary c =
    let h = c.in-Primary.ensures in
    simp append_assoc (rw (
      h.1,
      h.2,
      h.3,
      h.4,
      ← c.flag-fcb.ensures,
      ← c.flag-fcv.ensures,
      ← c.code-code.ensures.number,
    ) (search rules))

pub returns : goal.returns
returns c =
    let h = c.in-Secondary.ensures in
    simp append_assoc (rw (
      h.1,
      h.2,
      h.3,
      h.4,
      ← c.flag-acd.ensures,
      ← c.flag-dfc.ensures,
      ← c.code-code-in-Secondary.ensures.number,
    ) (search rules))
