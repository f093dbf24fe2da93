use Rattle.link.proofs.ProbesAnswered.{ends_behind_two}
use Rattle.link.proofs.laws.restarts.silence_ends_a_link_behind_two_statuses.Goals as goal

pub returns : goal.returns
returns c = ends_behind_two
