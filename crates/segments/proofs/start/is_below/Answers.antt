use Rattle.std.proofs.Common.{◌-◌, arith}
use Rattle.std.proofs.lemmas.Bool.{ltb-false, ltb-true}
use Rattle.segments.proofs.Crashes.{below_front, newer_front}
use Rattle.segments.proofs.start.is_below.Goals as goal

pub returns-clause-below : goal.returns-clause-below
returns-clause-below g c is clean =
    below_front _ c.in_ok-front.front c.args.number (c.in_ok-front.ensures.head clean)
    (omega (arith, c.number_of.ensures, ltb-true _ _ is))

pub returns-clause-others : goal.returns-clause-others
returns-clause-others g c isnt clean some =
    newer_front _ c.in_ok-front.front (c.args.number - 1) (c.in_ok-front.ensures.head clean)
    c.in_ok-front.ensures.fits
    (omega (arith, c.number_of.ensures, ltb-false _ _ isnt, some))
