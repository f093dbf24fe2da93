use Rattle.state.proofs.Tended.{begun_grown, begun_lost, kept_small, kept_waiting}
use Rattle.state.proofs.laws.a_log_is_begun_where_one_is_due.Goals as goal

pub returns-clause-grown : goal.returns-clause-grown
returns-clause-grown g c = begun_grown g.E.Ends.log g.E.Ends.deeds

pub returns-clause-lost : goal.returns-clause-lost
returns-clause-lost g c = begun_lost g.E.Ends.log g.E.Ends.deeds

pub returns-clause-small : goal.returns-clause-small
returns-clause-small g c = kept_small g.E.Ends.log g.E.Ends.deeds

pub returns-clause-waits : goal.returns-clause-waits
returns-clause-waits g c = kept_waiting g.E.Ends.log g.E.Ends.deeds
