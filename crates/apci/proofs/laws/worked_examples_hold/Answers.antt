use Rattle.apci.proofs.WorkedExamples.{spellings_hold, refusals_hold}
use Rattle.apci.proofs.laws.worked_examples_hold.Goals as goal

pub returns : goal.returns
returns c = record { spellings = spellings_hold; refusals = refusals_hold }
