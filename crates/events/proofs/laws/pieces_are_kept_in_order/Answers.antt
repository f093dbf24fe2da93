use Rattle.events.proofs.Histories.{all_kept}
use Rattle.events.proofs.laws.pieces_are_kept_in_order.Goals as goal

pub returns : goal.returns
returns c = all_kept
