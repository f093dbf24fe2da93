use Rattle.std.proofs.Common.{[]}
use Rattle.ft12.proofs.Returns.{lengths_differ}
use Rattle.ft12.proofs.stage.at_length_again.Goals as goal

pub returns-else-octet-len : goal.returns-else-octet-len
returns-else-octet-len c = λ size long. lengths_differ size c.args.len c.args.octet
    [] c.ranges.len.fits long c.if-octet-len.false
