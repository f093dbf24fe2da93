use Rattle.status.specs.Table.{table_parts}
use Rattle.status.proofs.WordLemmas.{puts_joined}
use Rattle.status.proofs.table.put_table.Goals as goal

pub returns : goal.returns
returns c =
    rw (
      c.for_silence-2.ensures,
      c.for_silence.ensures,
      c.put-2.ensures,
      c.as_bytes-2.ensures.value,
      c.put_syncs.ensures,
      c.put_queue.ensures,
      c.put_age-3.ensures,
      c.put_centre.ensures,
      c.put_age-2.ensures,
      c.put_line.ensures,
      c.put.ensures,
      c.as_bytes.ensures.value,
      c.put_age.ensures,
      c.put_version.ensures,
      c.put_performance.ensures,
      c.put_summary.ensures,
    )
    (puts_joined (table_parts c.args.snapshot.now) c.args.page.now)
