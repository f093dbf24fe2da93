use Rattle.link.proofs.Marks as marks
use Rattle.link.proofs.laws.carrying.the_latest_exchange_is_marked.Goals as goal

pub returns : goal.returns
returns c = record { itself = marks.itself; others = marks.others }
