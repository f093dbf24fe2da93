use Rattle.state.proofs.beginning.carry_on.Given as goal

abbrev pub ghosts-resume : goal.ghosts-resume
ghosts-resume g a = record { log = g.F.Folder.lineage a._folder.now }
