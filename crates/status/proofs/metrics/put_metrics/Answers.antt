use Rattle.status.specs.Metrics.{metrics_parts}
use Rattle.status.proofs.WordLemmas.{puts_joined}
use Rattle.status.proofs.metrics.put_metrics.Goals as goal

pub returns : goal.returns
returns c =
    rw (
      c.put_quality.ensures,
      c.put_families.ensures,
      c.put_syncs.ensures,
      c.put_keeping.ensures,
      c.put_gauges.ensures,
      c.put_rows.ensures,
      c.put_build.ensures,
    )
    (puts_joined (metrics_parts c.args.snapshot.now) c.args.page.now)
