use Rattle.settings.proofs.UnknownLemmas.{step_items}
use Rattle.settings.proofs.unknown.push_items.Goals as goal

-- by hand, since the search takes long here
pub loop-table-preserved : goal.loop-table-preserved
loop-table-preserved c =
    step_items c.loop-table.paths.items c.push_table.new.paths.items c.args.tables.now
    c.loop-table.table-index
    c.table-item.result _ c.loop-table-test.true c.table-item.is c.in_ok-push_table.ensures
    c.loop-table.invariant
