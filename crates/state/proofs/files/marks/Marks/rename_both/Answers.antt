use Rattle.state.proofs.Marking.{both_renamed}
use Rattle.state.proofs.files.marks.Marks.rename_both.Goals as goal

pub returns-clause-renamed : goal.returns-clause-renamed
returns-clause-renamed g c =
    both_renamed c.args.number _ _ _ _ c.in_ok-rename_to.ensures.renamed
    c.in_ok-rename_to-2.ensures.renamed c.sync.result c.sync.ensures
