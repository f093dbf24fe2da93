use Rattle.status.specs.Json.{json_parts}
use Rattle.status.proofs.WordLemmas.{puts_joined}
use Rattle.status.proofs.json.put_json.Goals as goal

pub returns : goal.returns
returns c =
    rw (
      c.put-4.ensures,
      c.put_listed-4.ensures,
      c.put-3.ensures,
      c.put_listed-3.ensures,
      c.put-2.ensures,
      c.put_listed-2.ensures,
      c.put_before_stations.ensures,
      c.put_listed.ensures,
      c.put_before_hour.ensures,
      c.put_text-2.ensures,
      c.put.ensures,
      c.put_text.ensures,
      c.put_before_cause.ensures,
      c.put_summary.ensures,
      c.put_before_summary.ensures,
    )
    (puts_joined (json_parts c.args.snapshot.now) c.args.page.now)
