use Rattle.runlog.proofs.Standing.{address_kept, gaps_counted, since_now, stands_by_requests}
use Rattle.runlog.proofs.Standing.{still_since}
use Rattle.runlog.proofs.station_laws.a_station_stands_as_its_requests_say.Goals as goal

pub returns-clause-standing : goal.returns-clause-standing
returns-clause-standing c = stands_by_requests

pub returns-clause-since : goal.returns-clause-since
returns-clause-since c = since_now

pub returns-clause-still : goal.returns-clause-still
returns-clause-still c = still_since

pub returns-clause-gaps : goal.returns-clause-gaps
returns-clause-gaps c = gaps_counted

pub returns-clause-address : goal.returns-clause-address
returns-clause-address c = address_kept
