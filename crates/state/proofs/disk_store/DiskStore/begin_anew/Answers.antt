use Rattle.state.proofs.Beside.{left_opened}
use Rattle.state.proofs.disk_store.DiskStore.begin_anew.Goals as goal

pub returns-then-begin_in-clause-beside : goal.returns-then-begin_in-clause-beside
returns-then-begin_in-clause-beside g c before _ =
    left_opened _ before _ c.in-Some.newest c.in-Some.is_sound c.in-Some.ensures.was
    (λ sound. c.begin_in.ensures.newest sound c.if-begin_in.true) c.in-Some.ensures.others
