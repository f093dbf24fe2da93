use Rattle.gateway.proofs.Given.{so_far, stations_given}
use Rattle.gateway.proofs.laws.what_is_due_is_given.Goals as goal

pub returns : goal.returns
returns c =
    record { answers = so_far; stations = stations_given c.commands_keep_the_rules.ensures }
