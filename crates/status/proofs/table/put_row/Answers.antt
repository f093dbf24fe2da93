use Rattle.status.specs.Table.{row_parts}
use Rattle.status.proofs.WordLemmas.{puts_joined}
use Rattle.status.proofs.table.put_row.Goals as goal

pub returns : goal.returns
returns c =
    rw (
      c.put_row_counts.ensures,
      c.put_age_or.ensures,
      c.put_age.ensures,
      c.put_row_head.ensures,
    )
    (puts_joined (row_parts c.args.now_ms c.args.station.now) c.args.page.now)
