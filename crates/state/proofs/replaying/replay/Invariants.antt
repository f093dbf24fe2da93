use Rattle.state.proofs.replaying.replay.Given as goal

abbrev pub ghosts-repeat : goal.ghosts-repeat
ghosts-repeat g a = record {
  log = g.K.Lineage.log;
  lines = g.L.EventLines.coming a.lines;
}
