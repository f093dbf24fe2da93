use Rattle.status.specs.Html.{event_parts}
use Rattle.status.proofs.WordLemmas.{puts_joined}
use Rattle.status.proofs.html.EventFormFormEventView.put.Goals as goal

pub returns : goal.returns
returns c =
    rw (
      c.put_name.ensures,
      c.name_about.ensures,
      c.put_words-2.ensures,
      c.as_str.ensures.value,
      c.put_age.ensures,
      c.put.ensures,
      c.put_time.ensures,
      c.time_of.ensures,
      c.put_words.ensures,
    )
    (puts_joined (event_parts c.args.self.now.snapshot.now c.args.event.now) c.args.page.now)
