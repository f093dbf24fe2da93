use Rattle.std.proofs.Common.{length, string_bytes}
use Rattle.words.specs.Pipes.{IsApduEnd}
use Rattle.words.specs.Described.{IsTcpDescribed}
use Rattle.words.proofs.Describing.{IsLoggedUpTo}
use Rattle.words.proofs.described.describe_apdus.Given as goal

abbrev pub invariant-apdus : goal.invariant-apdus
invariant-apdus l = IsLoggedUpTo IsApduEnd (IsTcpDescribed l.words) l.octets (string_bytes l.lines)
    l.left
    l.condition

abbrev pub decreases-apdus : goal.decreases-apdus
decreases-apdus l = length l.left
