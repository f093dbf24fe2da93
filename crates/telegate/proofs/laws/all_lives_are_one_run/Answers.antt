use Rattle.telegate.proofs.ManyLives.{last_up_to, returns}
use Rattle.telegate.proofs.laws.all_lives_are_one_run.Goals as goal

pub returns-clause-lives : goal.returns-clause-lives
returns-clause-lives g c settings origin =
    last_up_to _ g.D.Disk settings (c.steps_leave_nothing_open.ensures _) origin

pub returns-clause-next : goal.returns-clause-next
returns-clause-next g c settings this next =
    returns _ g.D.Disk settings (c.steps_leave_nothing_open.ensures _) this next
