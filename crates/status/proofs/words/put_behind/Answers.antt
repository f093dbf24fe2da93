use Rattle.status.specs.Words.{escaped}
use Rattle.status.proofs.Sheets.{put_put}
use Rattle.status.proofs.words.put_behind.Goals as goal

pub returns : goal.returns
returns c =
    rw (c.put_escaped.ensures, c.put.ensures, c.as_bytes.ensures.value)
    (put_put c.args.before.now (escaped c.args.marks c.args.text.now) c.args.page.now)
