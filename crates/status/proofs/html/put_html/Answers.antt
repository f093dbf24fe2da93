use Rattle.status.specs.Html.{html_parts}
use Rattle.status.proofs.WordLemmas.{puts_joined}
use Rattle.status.proofs.html.put_html.Goals as goal

pub returns : goal.returns
returns c =
    rw (
      c.put.ensures,
      c.as_bytes.ensures.value,
      c.put_rows.ensures,
      c.put_version.ensures,
      c.put_hour.ensures,
      c.put_events.ensures,
      c.put_stations.ensures,
      c.put_whole.ensures,
      c.put_summary.ensures,
      c.put_head.ensures,
    )
    (puts_joined (html_parts c.args.snapshot.now) c.args.page.now)
