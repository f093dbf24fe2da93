use Rattle.status.specs.Words.{two_digit_parts}
use Rattle.status.proofs.WordLemmas.{puts_joined}
use Rattle.status.proofs.words.put_two_digits.Goals as goal

pub returns : goal.returns
returns c =
    rw (c.put_number-2.ensures, c.put_number.ensures)
    (puts_joined (two_digit_parts c.args.number) c.args.page.now)
