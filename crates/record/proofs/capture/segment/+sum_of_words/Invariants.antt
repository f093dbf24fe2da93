use Rattle.std.proofs.Common.{length}
use Rattle.record.proofs.capture.segment.+sum_of_words.Given as goal

abbrev pub decreases-sum_of_words : goal.decreases-sum_of_words
decreases-sum_of_words l = length l.octets.now
