use Rattle.std.proofs.Common.{length, string_bytes}
use Rattle.words.specs.Pipes.{IsLineEnd}
use Rattle.words.specs.Described.{IsLineDescribed}
use Rattle.words.proofs.Describing.{IsLoggedUpTo}
use Rattle.words.proofs.described.describe_line_frames.Given as goal

abbrev pub invariant-frames : goal.invariant-frames
invariant-frames l = IsLoggedUpTo (IsLineEnd l.sizes.link) (IsLineDescribed l.words l.sizes)
    l.octets
    (string_bytes l.lines)
    l.left l.condition

abbrev pub decreases-frames : goal.decreases-frames
decreases-frames l = length l.left
