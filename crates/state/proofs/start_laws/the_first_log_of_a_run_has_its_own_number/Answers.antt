use Rattle.state.proofs.Numbering.{above, aside, next}
use Rattle.state.proofs.start_laws.the_first_log_of_a_run_has_its_own_number.Goals as goal

pub returns-clause-above : goal.returns-clause-above
returns-clause-above g c = above {g = g.D.Disk} c.the_next_number_is_new.ensures.above

pub returns-clause-next : goal.returns-clause-next
returns-clause-next g c = next {g = g.D.Disk} c.the_next_number_is_new.ensures.next

pub returns-clause-aside : goal.returns-clause-aside
returns-clause-aside g c = aside {g = g.D.Disk}
