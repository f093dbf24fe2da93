use Rattle.std.proofs.Common.{subst}
use Rattle.state.specs.Logs.{WasOpen}
use Rattle.state.proofs.Beside.{left_open}
use Rattle.state.proofs.disk_store.DiskStoreStore.begin.Goals as goal

pub returns-in-Some-clause-beside : goal.returns-in-Some-clause-beside
returns-in-Some-clause-beside g c is =
    left_open _ c.args.self.now.opened _ c.in-Some.newest c.in-Some.is_sound
    (subst (λ opened. WasOpen opened c.in-Some.newest) c.replace-opened.ensures.value
    c.in-Some.ensures.was)
    (λ sound. c.begin_in.ensures.newest sound is) c.in-Some.ensures.others

pub returns-in-None-clause-beside : goal.returns-in-None-clause-beside
returns-in-None-clause-beside g c is = c.begin_anew.ensures.beside c.args.self.now.opened is
