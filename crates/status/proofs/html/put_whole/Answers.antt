use Rattle.status.specs.Html.{whole_parts}
use Rattle.status.proofs.WordLemmas.{puts_joined}
use Rattle.status.proofs.html.put_whole.Goals as goal

pub returns : goal.returns
returns c =
    rw (
      c.put_meter.ensures,
      c.put_oldest.ensures,
      c.put_taken.ensures,
      c.put_syncs.ensures,
      c.put_state.ensures,
      c.put_age-3.ensures,
      c.put_centre.ensures,
      c.put_age-2.ensures,
      c.put_line.ensures,
      c.put-2.ensures,
      c.as_bytes.ensures.value,
      c.put_age.ensures,
      c.put.ensures,
    )
    (puts_joined (whole_parts c.args.snapshot.now) c.args.page.now)
