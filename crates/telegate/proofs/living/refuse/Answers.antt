use Rattle.std.proofs.Common.{refl}
use Rattle.telegate.proofs.living.refuse.Goals as goal

pub returns-clause-unkept : goal.returns-clause-unkept
returns-clause-unkept g c = (c.args.obstacle, refl, c.note.ensures.logs)
