use Rattle.std.proofs.Common.{take}
use Rattle.events.proofs.Cells.{appended_there}
use Rattle.events.proofs.ring.PieceRing.push.Goals as goal

pub returns : goal.returns
returns c =
    let e = c.self.inside in
    let reached = c.reach in
    appended_there reached.new.cells.items (take e.count e.cells.items) e.count
    reached.new.cells.capacity e.cells.capacity c.args.piece c.args.self.now reached.ensures.cell
    reached.ensures.pieces reached.ensures.capacity c.self.view_is
