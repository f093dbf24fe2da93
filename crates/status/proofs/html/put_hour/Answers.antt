use Rattle.status.specs.Html.{hour_parts}
use Rattle.status.proofs.WordLemmas.{puts_joined}
use Rattle.status.proofs.html.put_hour.Goals as goal

pub returns : goal.returns
returns c =
    rw (
      c.put_marks.ensures,
      c.put_words-2.ensures,
      c.put_rows.ensures,
      c.put_words.ensures,
      c.saturating_sub.ensures,
    )
    (puts_joined (hour_parts c.args.snapshot.now) c.args.page.now)
