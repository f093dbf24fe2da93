use Rattle.status.specs.Html.{station_parts}
use Rattle.status.proofs.WordLemmas.{puts_joined}
use Rattle.status.proofs.html.put_stations.Goals as goal

pub returns : goal.returns
returns c =
    rw (
      c.for_silence-2.ensures,
      c.for_silence.ensures,
      c.put.ensures,
      c.as_bytes.ensures.value,
    )
    (puts_joined (station_parts c.args.snapshot.now) c.args.page.now)
