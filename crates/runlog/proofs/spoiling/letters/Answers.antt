use Rattle.std.proofs.Common.{sym, subst}
use Rattle.std.specs.Str.{IsUtf8}
use Rattle.runlog.proofs.Letters.{letters_utf8}
use Rattle.runlog.proofs.spoiling.letters.Goals as goal

pub returns-in-Err : goal.returns-in-Err
returns-in-Err c = absurd (c.in-Err.ensures.cases.0
    (subst IsUtf8 (sym c.letter_count.ensures.letters) (letters_utf8 c.args.octets.now)))
