use Rattle.telegate.proofs.ManyLives.{heads_up_to, readable}
use Rattle.telegate.proofs.laws.each_log_begins_where_the_run_stands.Goals as goal

pub returns-clause-heads : goal.returns-clause-heads
returns-clause-heads g c p origin events now head gone up in_run =
    heads_up_to _ p origin events now gone up head in_run

pub returns-clause-readable : goal.returns-clause-readable
returns-clause-readable g c = readable
