use Rattle.std.proofs.Common.{refl}
use Rattle.std.specs.Fmt.{digits}
use Rattle.record.proofs.capture.examples.comments_by_example.Goals as goal

pub returns-clause-gaps : goal.returns-clause-gaps
unfolding digits
returns-clause-gaps c = refl
