use Rattle.link.proofs.RequestTables.{frames, plain, counted, user_data, other_data, foreign}
use Rattle.link.proofs.laws.tables.requests_are_whole.Goals as goal

pub returns-clause-frames : goal.returns-clause-frames
returns-clause-frames c = frames

pub returns-clause-plain : goal.returns-clause-plain
returns-clause-plain c = plain

pub returns-clause-counted : goal.returns-clause-counted
returns-clause-counted c = counted

pub returns-clause-user_data : goal.returns-clause-user_data
returns-clause-user_data c = user_data

pub returns-clause-other_data : goal.returns-clause-other_data
returns-clause-other_data c = other_data

pub returns-clause-foreign : goal.returns-clause-foreign
returns-clause-foreign c = foreign
