-- The first lines were put, and these are left.
use Rattle.telegate.proofs.RecordLemmas.{PutsTo}
use Rattle.telegate.proofs.recorded.put_events.Given as goal

abbrev pub invariant-putting : goal.invariant-putting
invariant-putting l = PutsTo l.fn.lines l.left l.part.items
