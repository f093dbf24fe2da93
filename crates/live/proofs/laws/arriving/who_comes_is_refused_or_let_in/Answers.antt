use Rattle.live.proofs.Sorted.{fault_came, guest_came, nobody_came, nobody_opened, peer_plain}
use Rattle.live.proofs.Sorted.{all_asked, all_counted, peer_mapped, peer_own, stranger_came}
use Rattle.live.proofs.Sorted.{usable_accepted}
use Rattle.live.proofs.laws.arriving.who_comes_is_refused_or_let_in.Goals as goal

pub returns-clause-nobody : goal.returns-clause-nobody
returns-clause-nobody c = nobody_came

pub returns-clause-refused : goal.returns-clause-refused
returns-clause-refused c = stranger_came

pub returns-clause-let_in : goal.returns-clause-let_in
returns-clause-let_in c = guest_came

pub returns-clause-others : goal.returns-clause-others
returns-clause-others c = fault_came

pub returns-clause-plain : goal.returns-clause-plain
returns-clause-plain c = peer_plain

pub returns-clause-accepted : goal.returns-clause-accepted
returns-clause-accepted c = usable_accepted

pub returns-clause-unopened : goal.returns-clause-unopened
returns-clause-unopened c = nobody_opened

pub returns-clause-own : goal.returns-clause-own
returns-clause-own c = peer_own

pub returns-clause-mapped : goal.returns-clause-mapped
returns-clause-mapped c = peer_mapped

pub returns-clause-all : goal.returns-clause-all
returns-clause-all c = all_asked

pub returns-clause-counted : goal.returns-clause-counted
returns-clause-counted c = all_counted
