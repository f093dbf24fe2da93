use Rattle.state.proofs.Begins.{state_begun, state_shown}
use Rattle.state.proofs.start_laws.nothing_is_gone_on_with_but_a_state.Goals as goal

pub returns-clause-begun : goal.returns-clause-begun
returns-clause-begun g c = state_begun {g = g.D.Disk}

pub returns-clause-shown : goal.returns-clause-shown
returns-clause-shown g c = state_shown
