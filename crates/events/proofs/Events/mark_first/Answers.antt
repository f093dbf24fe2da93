use Rattle.events.proofs.Marks.{queue_of-marked}
use Rattle.events.proofs.Events.mark_first.Goals as goal

pub returns : goal.returns
returns c = rw (← c.self.view_is) (queue_of-marked c.args.count _ _ _)
