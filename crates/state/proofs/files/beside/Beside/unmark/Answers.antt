use Rattle.state.proofs.Marking.{taken_beside}
use Rattle.state.proofs.files.beside.Beside.unmark.Goals as goal

pub returns : goal.returns
returns g c =
    taken_beside _ _ _ _ c.in_ok-has.field-0 c.if-not-branch.false c.has.result c.in_ok-has.was
    c.has.ensures c.rename.result c.in_ok-rename.field-0 c.in_ok-rename.was c.rename.ensures
    c.sync.result c.sync.ensures
