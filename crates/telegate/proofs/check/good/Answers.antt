use Rattle.std.proofs.Common.{refl}
use Rattle.telegate.proofs.check.good.Goals as goal

pub returns-in-Ok : goal.returns-in-Ok
returns-in-Ok c = record { text = rw c.into_bytes.ensures.value c.in-Ok.ensures.ok; status = refl }
