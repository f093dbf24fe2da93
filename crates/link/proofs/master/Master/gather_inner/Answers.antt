use Rattle.std.proofs.Common.{rules}
use Rattle.ft12.specs.Fronts.{front_of}
use Rattle.link.specs.Primary.{Primary}
use Rattle.link.proofs.Receiving.{rest_received}
use Rattle.link.proofs.master.Master.gather_inner.Goals as goal

-- the first octets are taken, and the others are received with them
pub returns-in-Some-clause-rest : goal.returns-in-Some-clause-rest
returns-in-Some-clause-rest c = λ lt.
    let p : Primary = c.args.self.now in
    rest_received (front_of p.settings.size) p c.inner_in.result c.args.octets.now _ lt
    (search (rules, c.note.ensures, c.inner_in.ensures.rest lt))
