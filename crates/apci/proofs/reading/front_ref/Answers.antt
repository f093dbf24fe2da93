use Rattle.apci.specs.Borrowed.{owned_front}
use Rattle.apci.proofs.Exact.{one_front}
use Rattle.apci.proofs.reading.front_ref.Goals as goal

pub returns-clause-only : goal.returns-clause-only
returns-clause-only c = λ other right. one_front c.args.octets.now
    (owned_front c.first_of.result) other c.first_of.ensures right
