use Rattle.status.specs.Html.{event_list}
use Rattle.status.proofs.WordLemmas.{puts_joined}
use Rattle.status.proofs.html.put_events.Goals as goal

pub returns : goal.returns
returns c =
    rw (c.put_rows.ensures, c.put.ensures, c.as_bytes.ensures.value)
    (puts_joined (event_list c.args.snapshot.now) c.args.page.now)
