use Rattle.live.proofs.Cuts.{comes_next, kept, put_due}
use Rattle.live.proofs.laws.a_cut_that_is_due_comes_next.Goals as goal

pub returns-clause-next : goal.returns-clause-next
returns-clause-next c = comes_next

pub returns-clause-wall : goal.returns-clause-wall
returns-clause-wall c = kept

pub returns-clause-put : goal.returns-clause-put
returns-clause-put c = put_due
