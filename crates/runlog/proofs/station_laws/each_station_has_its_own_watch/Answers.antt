use Rattle.runlog.proofs.Passings.{asked_if_there}
use Rattle.runlog.proofs.Places.{counts_so, link_so, nothing_so, places_so}
use Rattle.runlog.proofs.station_laws.each_station_has_its_own_watch.Goals as goal

pub returns-clause-request : goal.returns-clause-request
returns-clause-request c = asked_if_there

pub returns-clause-nothing : goal.returns-clause-nothing
returns-clause-nothing c = nothing_so

pub returns-clause-places : goal.returns-clause-places
returns-clause-places c = places_so

pub returns-clause-size : goal.returns-clause-size
returns-clause-size c = link_so

pub returns-clause-counts : goal.returns-clause-counts
returns-clause-counts c = counts_so
