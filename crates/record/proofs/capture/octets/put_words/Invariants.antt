use Rattle.std.proofs.Common.{◌≡◌, ◌++◌, take}
use Rattle.std.specs.List.{flat_map}
use Rattle.record.specs.Octets.{word}
use Rattle.record.proofs.capture.octets.put_words.Given as goal

abbrev pub invariant-loop-number : goal.invariant-loop-number
invariant-loop-number l = l.page ≡ l.initial.page ++ flat_map word (take l.number-index l.words)
