use Rattle.state.proofs.Failures.{has_room, holds_each}
use Rattle.state.proofs.laws.a_log_has_room_for_each_line.Goals as goal

pub returns-clause-room : goal.returns-clause-room
returns-clause-room c = has_room

pub returns-clause-each : goal.returns-clause-each
returns-clause-each c = holds_each
