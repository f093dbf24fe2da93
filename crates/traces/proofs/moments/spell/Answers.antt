use Rattle.std.proofs.Common.{arith}
use Rattle.traces.proofs.MomentLemmas.{place_left, last_spelled, first_spelled}
use Rattle.traces.proofs.moments.spell.Goals as goal

pub overflow_sub-start : goal.overflow_sub-start
overflow_sub-start c =
    place_left _ c.digits.left _ _ c.ranges.number.fits c.digits.auto.left-fits.fits
    c.digits.invariant

pub digits-preserved : goal.digits-preserved
digits-preserved c =
    last_spelled _ _ _ _ c.ranges.number.fits c.digits.auto.left-fits.fits c.digits-test.true
    c.digits.invariant

pub overflow_sub-start-2 : goal.overflow_sub-start-2
overflow_sub-start-2 c =
    place_left _ c.digits.left _ _ c.ranges.number.fits c.digits.auto.left-fits.fits
    c.digits.invariant

pub returns-clause-digits : goal.returns-clause-digits
returns-clause-digits c =
    first_spelled _ _ _ _ c.ranges.number.fits (omega arith) c.digits.invariant
