use Rattle.asdu.proofs.Accepted.{found, only}
use Rattle.asdu.proofs.Answers.{objects, nothing}
use Rattle.asdu.proofs.reading.read.Goals as goal

pub returns-clause-found : goal.returns-clause-found
returns-clause-found c = found c.args.sizes c.args.octets.now c.check.result
    (λ i. (c.type_inv.octets i).fits) c.check.ensures.source

pub returns-clause-only : goal.returns-clause-only
returns-clause-only c =
    only c.args.sizes c.args.octets.now c.check.result c.check.ensures.source
    c.check.ensures.refused

pub returns-clause-objects : goal.returns-clause-objects
returns-clause-objects c =
    objects c.args.sizes c.args.octets.now c.check.result
    (found c.args.sizes c.args.octets.now c.check.result (λ i. (c.type_inv.octets i).fits)
    c.check.ensures.source)

pub returns-clause-nothing : goal.returns-clause-nothing
returns-clause-nothing c = nothing c.args.sizes c.args.octets.now c.check.result
    c.check.ensures.refused
