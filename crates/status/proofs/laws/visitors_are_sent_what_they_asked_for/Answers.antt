use Rattle.status.proofs.VisitLemmas.{has_request, is_sent, nothing_yet}
use Rattle.status.proofs.laws.visitors_are_sent_what_they_asked_for.Goals as goal

pub returns-clause-nothing : goal.returns-clause-nothing
returns-clause-nothing g c = nothing_yet g.S.Stream.given g.S.Stream.taken g.S.Stream.calls

pub returns-clause-answer : goal.returns-clause-answer
returns-clause-answer g c = is_sent g.S.Stream.given g.S.Stream.taken g.S.Stream.calls

pub returns-clause-request : goal.returns-clause-request
returns-clause-request g c = has_request g.S.Stream.given g.S.Stream.taken g.S.Stream.calls
