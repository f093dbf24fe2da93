use Rattle.state.proofs.Blank.{still_backed, still_older}
use Rattle.state.proofs.disk_store.shut_if_blank.Goals as goal

pub returns-in-Ok-clause-backed : goal.returns-in-Ok-clause-backed
returns-in-Ok-clause-backed g c clean spare backed =
    still_backed (g.D.Disk.seen c.args.newest) (g.D.Disk.may_leave c.args.newest)
    (g.D.Disk.may_leave c.shut_blank.new.file) spare (g.met.D.Disk.seen_may_stay c.args.newest)
    (c.in-Ok.ensures.left clean) backed

pub returns-in-Ok-clause-older : goal.returns-in-Ok-clause-older
returns-in-Ok-clause-older g c clean number older =
    still_older (g.D.Disk.seen c.args.newest) (g.D.Disk.may_leave c.args.newest)
    (g.D.Disk.may_leave c.shut_blank.new.file) number (c.in-Ok.ensures.left clean) older
