use Rattle.command.proofs.Staying.{judging_leaves_waiting, judging_leaves_answers}
use Rattle.command.proofs.Staying.{mirroring_leaves_waiting, mirroring_leaves_answers}
use Rattle.command.proofs.Staying.{sending_leaves_others, sending_leaves_answers}
use Rattle.command.proofs.laws.waiting_commands_stay.Goals as goal

pub returns-clause-judged : goal.returns-clause-judged
returns-clause-judged c = judging_leaves_waiting

pub returns-clause-mirrored : goal.returns-clause-mirrored
returns-clause-mirrored c = mirroring_leaves_waiting

pub returns-clause-sent : goal.returns-clause-sent
returns-clause-sent c = sending_leaves_others

pub returns-clause-answers_judged : goal.returns-clause-answers_judged
returns-clause-answers_judged c = judging_leaves_answers

pub returns-clause-answers_mirrored : goal.returns-clause-answers_mirrored
returns-clause-answers_mirrored c = mirroring_leaves_answers

pub returns-clause-answers_sent : goal.returns-clause-answers_sent
returns-clause-answers_sent c = sending_leaves_answers
