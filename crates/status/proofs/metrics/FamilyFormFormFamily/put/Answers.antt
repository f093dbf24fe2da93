use Rattle.status.specs.Metrics.{head_of_family}
use Rattle.status.proofs.Sheets.{put_put}
use Rattle.status.proofs.metrics.FamilyFormFormFamily.put.Goals as goal

pub returns : goal.returns
returns c =
    rw (c.put_rows.ensures, c.put_head.ensures) (put_put (head_of_family c.args.family.now) _
    c.args.page.now)
