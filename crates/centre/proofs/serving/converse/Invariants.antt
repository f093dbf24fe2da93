use Rattle.centre.specs.Courses.{HasTold}
use Rattle.centre.proofs.serving.converse.Given as goal

abbrev pub invariant-rounds : goal.invariant-rounds
invariant-rounds g l =
    HasTold l.initial.desk l.desk (g.W.Write.contents l.initial.out) (g.W.Write.contents l.out)
