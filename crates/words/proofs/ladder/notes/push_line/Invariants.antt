use Rattle.std.proofs.Common.{length}
use Rattle.std.specs.Prelude.{string_bytes}
use Rattle.words.proofs.Noting.{FramesTo}
use Rattle.words.proofs.ladder.notes.push_line.Given as goal

abbrev pub invariant-frames : goal.invariant-frames
invariant-frames l =
    FramesTo l.style l.now l.fn.memory l.octets (string_bytes l.fn.text) l.memory l.left
    (string_bytes l.text)

abbrev pub decreases-frames : goal.decreases-frames
decreases-frames l = length l.left
