use Rattle.status.specs.Words.{thousandth_parts}
use Rattle.status.proofs.WordLemmas.{puts_joined}
use Rattle.status.proofs.words.put_thousandths.Goals as goal

pub returns : goal.returns
returns c =
    rw (
      c.put_number-4.ensures,
      c.put_number-3.ensures,
      c.put_number-2.ensures,
      c.put.ensures,
      c.put_number.ensures,
    )
    (puts_joined (thousandth_parts c.args.number) c.args.page.now)
