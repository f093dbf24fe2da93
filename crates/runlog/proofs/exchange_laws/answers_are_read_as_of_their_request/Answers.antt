use Rattle.runlog.proofs.Answered.{answer_so, awaited_so, command_so, joined_so, none_so}
use Rattle.runlog.proofs.Answered.{not_yet_so, nothing_so, pieces_so}
use Rattle.runlog.proofs.exchange_laws.answers_are_read_as_of_their_request.Goals as goal

pub returns-clause-awaited : goal.returns-clause-awaited
returns-clause-awaited c = awaited_so

pub returns-clause-command : goal.returns-clause-command
returns-clause-command c = command_so

pub returns-clause-pieces : goal.returns-clause-pieces
returns-clause-pieces c = pieces_so

pub returns-clause-joined : goal.returns-clause-joined
returns-clause-joined c = joined_so

pub returns-clause-answer : goal.returns-clause-answer
returns-clause-answer c = answer_so

pub returns-clause-not_yet : goal.returns-clause-not_yet
returns-clause-not_yet c = not_yet_so

pub returns-clause-none : goal.returns-clause-none
returns-clause-none c = none_so

pub returns-clause-nothing : goal.returns-clause-nothing
returns-clause-nothing c = nothing_so
