use Rattle.state.proofs.StationLineLemmas.{lines_are}
use Rattle.state.proofs.description.laws.each_station_has_its_line.Goals as goal

pub returns-clause-lines : goal.returns-clause-lines
returns-clause-lines c = lines_are
