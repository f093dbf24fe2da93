use Rattle.traces.proofs.MomentLemmas.{IsSpelling}
use Rattle.traces.proofs.moments.spell.Given as goal

abbrev pub invariant-digits : goal.invariant-digits
invariant-digits l = IsSpelling l.number l.left l.row l.start

abbrev pub decreases-digits : goal.decreases-digits
decreases-digits l = l.left
