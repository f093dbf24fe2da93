use Rattle.std.proofs.Common.{subst, IfSome}
use Rattle.apci.specs.Assembly.{Assembly, IsResumable}
use Rattle.apci.proofs.Resuming.{resumable}
use Rattle.apci.proofs.assembling.Assembler.put_so_far.Goals as goal

pub returns-clause-resumable : goal.returns-clause-resumable
returns-clause-resumable c =
    let P : Assembly → Type 0 = λ a. IfSome a.so_far IsResumable in
    subst P c.self.view_is (resumable c.self.inside.state c.self.inside.asdu.items c.self.invariant)
