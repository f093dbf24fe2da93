use Rattle.std.proofs.Common.{◌≡◌, take}
use Rattle.std.specs.Prelude.{filter}
use Rattle.words.specs.Pipes.{is_mark}
use Rattle.words.proofs.pipes.without_blanks.Given as goal

abbrev pub invariant-loop-mark : goal.invariant-loop-mark
invariant-loop-mark l = l.marks.items ≡ filter is_mark (take l.mark-index l.text)
