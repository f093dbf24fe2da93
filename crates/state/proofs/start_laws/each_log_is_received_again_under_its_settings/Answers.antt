use Rattle.state.proofs.Begins.{is_moved, received}
use Rattle.state.proofs.start_laws.each_log_is_received_again_under_its_settings.Goals as goal

pub returns-clause-received : goal.returns-clause-received
returns-clause-received g c = received {g = g.D.Disk}

pub returns-clause-moved : goal.returns-clause-moved
returns-clause-moved g c = is_moved {g = g.D.Disk}
