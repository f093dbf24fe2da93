use Rattle.status.proofs.metrics.put_keeping.Goals as goal

pub returns : goal.returns
returns c = rw (← c.keeps.ensures, ← c.cannot_keep.ensures) c.put_rows.ensures
