use Rattle.std.proofs.Common.{[], arith}
use Rattle.ft12.proofs.Returns.{length_small}
use Rattle.ft12.proofs.stage.at_length.Goals as goal

pub returns-then-from-octets : goal.returns-then-from-octets
returns-then-from-octets c = length_small c.args.size c.args.octet [] (omega arith)
