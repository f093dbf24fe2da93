use Rattle.state.proofs.looking.look.Given as goal

abbrev pub ghosts-look_from : goal.ghosts-look_from
ghosts-look_from g a = record { log = a._before.now.entries }
