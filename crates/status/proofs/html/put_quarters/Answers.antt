use Rattle.status.specs.Html.{mark_parts}
use Rattle.status.proofs.WordLemmas.{puts_joined}
use Rattle.status.proofs.html.put_quarters.Goals as goal

pub returns : goal.returns
returns c =
    rw (
      c.put_mark-4.ensures,
      c.put_mark-3.ensures,
      c.put_mark-2.ensures,
      c.put_mark.ensures,
    )
    (puts_joined (mark_parts c.args.minute) c.args.page.now)
