use Rattle.asdu.proofs.Reports.{pieces_joined, pieces_monitored, pieces_some_monitored, pieces_are}
use Rattle.asdu.proofs.Reports.{pieces_lengths, pieces_full, pieces_number, pieces_few}
use Rattle.asdu.proofs.laws.pieces_carry_the_report.Goals as goal

pub returns-clause-joined : goal.returns-clause-joined
returns-clause-joined c = pieces_joined

pub returns-clause-monitored : goal.returns-clause-monitored
returns-clause-monitored c = pieces_monitored

pub returns-clause-some_monitored : goal.returns-clause-some_monitored
returns-clause-some_monitored c = pieces_some_monitored

pub returns-clause-pieces : goal.returns-clause-pieces
returns-clause-pieces c = pieces_are

pub returns-clause-lengths : goal.returns-clause-lengths
returns-clause-lengths c = pieces_lengths

pub returns-clause-full : goal.returns-clause-full
returns-clause-full c = pieces_full

pub returns-clause-number : goal.returns-clause-number
returns-clause-number c = pieces_number

pub returns-clause-few : goal.returns-clause-few
returns-clause-few c = pieces_few
