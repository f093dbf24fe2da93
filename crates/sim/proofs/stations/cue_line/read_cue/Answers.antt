use Rattle.sim.proofs.stations.cue_line.read_cue.Goals as goal

pub returns-in_default-rest : goal.returns-in_default-rest
returns-in_default-rest c = c.habit.ensures c.args.size

pub returns-then-eq : goal.returns-then-eq
returns-then-eq c = c.delayed.ensures c.args.size
