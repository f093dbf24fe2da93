use Rattle.std.proofs.Common.{length}
use Rattle.std.specs.Prelude.{string_bytes}
use Rattle.words.proofs.Noting.{ApdusTo}
use Rattle.words.proofs.ladder.notes.push_bytes.Given as goal

abbrev pub invariant-apdus : goal.invariant-apdus
invariant-apdus l =
    ApdusTo l.style l.now l.fn.memory l.octets (string_bytes l.fn.text) l.memory l.left
    (string_bytes l.text)

abbrev pub decreases-apdus : goal.decreases-apdus
decreases-apdus l = length l.left
