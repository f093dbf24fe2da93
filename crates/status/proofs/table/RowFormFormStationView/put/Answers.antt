use Rattle.std.proofs.Common.{sym}
use Rattle.status.proofs.WordLemmas.{put_nothing}
use Rattle.status.proofs.table.RowFormFormStationView.put.Goals as goal

pub returns-else-is_silent-self : goal.returns-else-is_silent-self
returns-else-is_silent-self c =
    rw (← c.is_silent.ensures, c.if-is_silent-self.false) (sym (put_nothing c.args.page.now))
