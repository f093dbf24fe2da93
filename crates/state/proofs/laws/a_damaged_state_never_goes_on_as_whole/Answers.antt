use Rattle.state.proofs.Takings.{never_stale, takes_first, takes_lines, takes_newest, takes_whole}
use Rattle.state.proofs.laws.a_damaged_state_never_goes_on_as_whole.Goals as goal

pub returns-clause-whole : goal.returns-clause-whole
returns-clause-whole g c = takes_whole {g = g.D.Disk}

pub returns-clause-lines : goal.returns-clause-lines
returns-clause-lines g c = takes_lines {g = g.D.Disk}

pub returns-clause-newer : goal.returns-clause-newer
returns-clause-newer g c = takes_newest {g = g.D.Disk}

pub returns-clause-emptied : goal.returns-clause-emptied
returns-clause-emptied g c = takes_first {g = g.D.Disk}

pub returns-clause-stale : goal.returns-clause-stale
returns-clause-stale g c = never_stale {g = g.D.Disk}
