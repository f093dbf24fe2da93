use Rattle.std.proofs.Common.{◌∙◌}
use Rattle.gateway.specs.Course.{room_in}
use Rattle.gateway.specs.Log.{latest}
use Rattle.delivery.proofs.Accounts.{accounts_taken, done_skips, done_mirrors}
use Rattle.delivery.proofs.counting.what_a_gateway_tells_is_its_logs.Goals as goal

pub returns-clause-kept : goal.returns-clause-kept
returns-clause-kept c = λ p s log a.
    (a.course, a.course_runs, accounts_taken p s log a, a.left)

pub returns-clause-skipped : goal.returns-clause-skipped
returns-clause-skipped c = λ p s log f set a.
    a.skipped
    ∙ done_skips (latest log) (room_in p log a.course) a.course.works
    ∙ (c.the_course_is_the_logs.ensures p log a.course f set a.course_runs).skipped

pub returns-clause-mirrors : goal.returns-clause-mirrors
returns-clause-mirrors c = λ p s log f set a.
    let told = c.counts_of_commands_are_the_logs.ensures.mirrors p log a.course f set a.course_runs
    in (
      told.0,
      told.1,
      a.mirrors
          ∙ done_mirrors (latest log) (room_in p log a.course) a.course.works
          ∙ told.2,
    )

pub returns-clause-lost : goal.returns-clause-lost
returns-clause-lost c = λ p s log f set a.
    a.lost
    ∙ c.counts_of_commands_are_the_logs.ensures.lost p log a.course f set a.course_runs

pub returns-clause-spoilt : goal.returns-clause-spoilt
returns-clause-spoilt c = λ p s log a. a.spoilt
