use Rattle.std.proofs.Common.{[]}
use Rattle.ft12.proofs.Returns.{start_differs}
use Rattle.ft12.proofs.stage.at_second_start.Goals as goal

pub returns-else-octet-eq-START_DATA :
    goal.returns-else-octet-eq-START_DATA
returns-else-octet-eq-START_DATA c =
    λ size long. start_differs size c.args.len c.args.octet
    [] c.ranges.len.fits long c.if-octet-eq-START_DATA.false
