use Rattle.std.specs.Prelude.{None}
use Rattle.link.specs.Outstation.{all_done}
use Rattle.link.specs.Delivery.{commands}
use Rattle.gateway.specs.Reports.{address_at, exchanges_with}
use Rattle.delivery.specs.Commands.{first_sendings}
use Rattle.delivery.proofs.Sublists.{sub_all}
use Rattle.delivery.proofs.Accepted.{accepted_are_sent}
use Rattle.delivery.proofs.Centre.{of_the_centre}
use Rattle.delivery.proofs.commands.each_command_is_given_once.Goals as goal

pub returns-clause-sent : goal.returns-clause-sent
returns-clause-sent c = λ p log i f set.
    of_the_centre p log i f (c.the_course_is_the_logs.ensures p log f.course f set f.course_runs)
    (c.courses_keep_commands.ensures p log f.course f.course_runs).forwarded
    (c.courses_keep_commands.ensures p log f.course f.course_runs).answered
    (first_sendings (address_at p.addresses i) None (exchanges_with p i log))
    (sub_all (first_sendings (address_at p.addresses i) None (exchanges_with p i log)))

pub returns-clause-accepted : goal.returns-clause-accepted
returns-clause-accepted c = λ p log i turns f set within honest.
    of_the_centre p log i f (c.the_course_is_the_logs.ensures p log f.course f set f.course_runs)
    (c.courses_keep_commands.ensures p log f.course f.course_runs).forwarded
    (c.courses_keep_commands.ensures p log f.course f.course_runs).answered
    (commands (all_done turns))
    (accepted_are_sent (address_at p.addresses i) (exchanges_with p i log) turns
    (c.sessions_are_known.ensures.done_there p.link (address_at p.addresses i)
    (exchanges_with p i log) turns
    (f.links i within) honest)
    (c.commands_are_accepted.ensures.each p.link (address_at p.addresses i) (exchanges_with p i log)
    turns
    (f.links i within) honest))
