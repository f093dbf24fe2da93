use Rattle.apci.proofs.Resuming.{received_more}
use Rattle.apci.proofs.assembling.Assembler.resumed.Goals as goal

pub returns-clause-so_far : goal.returns-clause-so_far
returns-clause-so_far c = λ is.
    (received_more c.new-assembler.result.so_far c.args.octets.now c.feed-arrived.result.0
    c.feed-arrived.result.1
    c.feed-arrived.new.self c.new-assembler.ensures.so_far c.feed-arrived.ensures.listening is).0

pub returns-clause-whole : goal.returns-clause-whole
returns-clause-whole c = λ is.
    (received_more c.new-assembler.result.so_far c.args.octets.now c.feed-arrived.result.0
    c.feed-arrived.result.1
    c.feed-arrived.new.self c.new-assembler.ensures.so_far c.feed-arrived.ensures.listening is).1
