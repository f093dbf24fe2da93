use Rattle.std.proofs.Common.{length}
use Rattle.runlog.proofs.spoiling.+write_hex.Given as goal

abbrev pub decreases-write_hex : goal.decreases-write_hex
decreases-write_hex g l = length l.octets.now
