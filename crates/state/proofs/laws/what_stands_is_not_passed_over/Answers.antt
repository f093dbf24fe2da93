use Rattle.state.proofs.Takings.{anew_shut, links_stay, newer_wins}
use Rattle.state.proofs.laws.what_stands_is_not_passed_over.Goals as goal

pub returns-clause-anew : goal.returns-clause-anew
returns-clause-anew g c = anew_shut {g = g.D.Disk}

pub returns-clause-links : goal.returns-clause-links
returns-clause-links g c = links_stay {g = g.D.Disk}

pub returns-clause-newest : goal.returns-clause-newest
returns-clause-newest g c = newer_wins {g = g.D.Disk}
