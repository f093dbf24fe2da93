use Rattle.std.proofs.Common.{arith}
use Rattle.status.proofs.WordLemmas.{listed_none, listed_some}
use Rattle.status.proofs.lists.put_listed.Goals as goal

pub returns-in_default : goal.returns-in_default
returns-in_default g c =
    listed_none (g.F.Form.text c.args.form.now) c.args.things.now c.args.page.now
    (omega (arith, c.in_default.len_below))

pub returns-in-len1-up : goal.returns-in-len1-up
returns-in-len1-up g c =
    listed_some (g.F.Form.text c.args.form.now) c.args.things.now c.first-item.result
    c.args.page.now c.put.new.page _
    c.in-len1-up.len_at_least c.first-item.is c.put.ensures c.put_behind.ensures
