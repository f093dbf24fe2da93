use Rattle.status.specs.Json.{event_parts}
use Rattle.status.proofs.WordLemmas.{puts_joined}
use Rattle.status.proofs.json.EventFormFormEventView.put.Goals as goal

pub returns : goal.returns
returns c =
    rw (
      c.put-3.ensures,
      c.put_string-2.ensures,
      c.name_about.ensures,
      c.put-2.ensures,
      c.put_string.ensures,
      c.as_str.ensures.value,
      c.put.ensures,
      c.put_event_head.ensures,
      c.time_of.ensures,
    )
    (puts_joined (event_parts c.args.self.now.snapshot.now c.args.event.now) c.args.page.now)
