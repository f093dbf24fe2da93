use Rattle.gateway.specs.Connections.{present, past}
use Rattle.gateway.specs.Course.{here_of}
use Rattle.gateway.specs.Reports.{taken_objects}
use Rattle.delivery.proofs.HasCome.{all_parts, are_runs, one_run}
use Rattle.delivery.proofs.received.what_has_come_is_one_run.Goals as goal

pub returns-clause-each : goal.returns-clause-each
returns-clause-each c = λ p log came d h.
    are_runs (taken_objects p log) _ came d.run
    (all_parts c.spellings_cancel.ensures (present log) (past log) (here_of d.course)
    d.course.earlier came d.begun d.are h)

pub returns-clause-one : goal.returns-clause-one
returns-clause-one c = λ p log came d h ack.
    one_run (taken_objects p log) _ came d.run
    (all_parts c.spellings_cancel.ensures (present log) (past log) (here_of d.course)
    d.course.earlier came d.begun d.are h) ack
