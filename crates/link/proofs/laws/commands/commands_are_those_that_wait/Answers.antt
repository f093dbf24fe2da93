use Rattle.link.proofs.Known.{begun_waited}
use Rattle.link.proofs.laws.commands.commands_are_those_that_wait.Goals as goal

pub returns : goal.returns
returns c = begun_waited
