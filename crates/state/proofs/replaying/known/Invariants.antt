use Rattle.state.proofs.replaying.known.Given as goal

abbrev pub ghost-before : goal.ghost-before
ghost-before g a = g.log
