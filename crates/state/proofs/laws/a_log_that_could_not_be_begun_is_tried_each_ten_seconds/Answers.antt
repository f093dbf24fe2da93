use Rattle.std.proofs.lemmas.Bool.{le-ltb, lt-ltb}
use Rattle.state.proofs.NoticeLemmas.{begun_due, first_due, later_due, not_due}
use Rattle.state.proofs.laws.a_log_that_could_not_be_begun_is_tried_each_ten_seconds.Goals as goal

pub returns-clause-grown : goal.returns-clause-grown
returns-clause-grown c octets more = lt-ltb 3900000 octets more

pub returns-clause-small : goal.returns-clause-small
returns-clause-small c octets few = le-ltb 3900000 octets few

pub returns-clause-first : goal.returns-clause-first
returns-clause-first c = first_due

pub returns-clause-begun : goal.returns-clause-begun
returns-clause-begun c = begun_due

pub returns-clause-later : goal.returns-clause-later
returns-clause-later c = later_due

pub returns-clause-within : goal.returns-clause-within
returns-clause-within c = not_due
