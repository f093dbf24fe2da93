use Rattle.std.proofs.Common.{◌≡◌, ◌++◌, drop}
use Rattle.statetext.specs.Text.{text_behind}
use Rattle.statetext.proofs.sheet.spell_others.Given as goal

abbrev pub invariant-loop-number : goal.invariant-loop-number
invariant-loop-number l =
    l.row.items ++ text_behind (drop l.number-index l.others) ≡ l.fn.row.items
    ++ text_behind l.others
