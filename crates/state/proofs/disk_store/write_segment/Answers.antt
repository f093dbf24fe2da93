use Rattle.gateway.specs.Restored.{state_lines}
use Rattle.state.proofs.Fresh.{fresh_of}
use Rattle.state.proofs.Renewing.{whole_amid}
use Rattle.state.proofs.disk_store.write_segment.Goals as goal

pub returns-in-Ok-finish-clause-fresh : goal.returns-in-Ok-finish-clause-fresh
returns-in-Ok-finish-clause-fresh g c mixing file left =
    let e = c.in-Ok-finish.ensures in
    fresh_of _ _ _ _ _ _ _ _ _ file e.number e.body e.writes e.none c.in_ok-writer.ensures.head
    c.survives.ensures.survives (c.survives.ensures.mixed mixing) left

pub returns-in-Err-finish-clause-amid : goal.returns-in-Err-finish-clause-amid
returns-in-Err-finish-clause-amid g c mixing =
    whole_amid (g.D.Disk.may_leave c.args.spare) _ c.args.number c.args.settings.now
    (state_lines c.args.gateway.now) _ c.in_ok-writer.ensures.head
    (c.in-Err-finish.ensures.mixed mixing)
