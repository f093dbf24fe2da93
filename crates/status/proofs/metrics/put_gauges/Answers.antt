use Rattle.status.proofs.metrics.put_gauges.Goals as goal

pub returns : goal.returns
returns c = rw (
  ← c.seconds.ensures,
  ← c.seconds-2.ensures,
  ← c.is_some.ensures,
  ← c.oldest_seconds.ensures,
)
    c.put_rows.ensures
