use Rattle.status.specs.Texts.{summary_parts}
use Rattle.status.proofs.WordLemmas.{puts_joined}
use Rattle.status.proofs.texts.put_summary.Goals as goal

pub returns : goal.returns
returns c =
    rw (c.put_standings.ensures, c.put_troubles.ensures)
    (puts_joined (summary_parts c.args.snapshot.now) c.args.page.now)
