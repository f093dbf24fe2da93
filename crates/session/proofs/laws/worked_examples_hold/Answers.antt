use Rattle.session.proofs.Examples.{numbers_hold, transfers_hold, timers_hold}
use Rattle.session.proofs.laws.worked_examples_hold.Goals as goal

pub returns : goal.returns
returns c = record { numbers = numbers_hold; transfer = transfers_hold; timers = timers_hold }
