use Rattle.std.proofs.Common.{sym, []}
use Rattle.status.proofs.WordLemmas.{put_nothing}
use Rattle.status.proofs.seat.receive.Goals as goal

pub returns-in-Quiet-clause-given : goal.returns-in-Quiet-clause-given
returns-in-Quiet-clause-given g c = ([], c.in-Quiet.ensures.given, sym (put_nothing _))

pub returns-in-Gone-clause-given : goal.returns-in-Gone-clause-given
returns-in-Gone-clause-given g c = ([], c.in-Gone.ensures.given, sym (put_nothing _))
