use Rattle.std.proofs.Common.{length}
use Rattle.runlog.proofs.spoiling.+letter_count.Given as goal

abbrev pub decreases-letter_count : goal.decreases-letter_count
decreases-letter_count l = length l.octets.now
