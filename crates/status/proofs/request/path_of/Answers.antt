use Rattle.std.proofs.Common.{ap, ℕ, Option}
use Rattle.status.specs.Request.{cut_at}
use Rattle.status.proofs.request.path_of.Goals as goal

pub returns-in-Some : goal.returns-in-Some
returns-in-Some c = ap (λ (o : Option ℕ). cut_at o c.args.target.now) c.in-Some.ensures.first

pub returns-in-None : goal.returns-in-None
returns-in-None c = ap (λ (o : Option ℕ). cut_at o c.args.target.now) c.in-None.ensures.first
