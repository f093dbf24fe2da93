use Rattle.std.proofs.Common.{subst}
use Rattle.state.specs.Sights.{BeginsSo}
use Rattle.state.specs.declared.start.Beginning.{Beginning}
use Rattle.state.specs.Unread.{IsUnread}
use Rattle.state.proofs.Takings.{not_aside, shut_not_aside}
use Rattle.state.proofs.laws.a_state_that_can_be_read_is_not_put_aside.Goals as goal

pub returns-clause-kept : goal.returns-clause-kept
returns-clause-kept g c = not_aside

pub returns-clause-shut : goal.returns-clause-shut
returns-clause-shut g c = shut_not_aside

pub returns-clause-put : goal.returns-clause-put
returns-clause-put g c = λ folder wanted text head body state was clean clean' fits found says
    octets
    read savable all. not_aside wanted text (g.F.File.Disk.seen was.newest)
    (g.F.File.Disk.seen was.other) head body state fits found says octets read savable all
    (was.unread clean clean')

pub returns-clause-shown : goal.returns-clause-shown
returns-clause-shown g c = λ log is_stale first second text s shown wanted head body state aside
    fits found says octets read savable all.
    let P : Beginning → Type 0 = λ b. BeginsSo b is_stale shown.newest shown.other in
    let unread : IsUnread shown.newest shown.other = subst P aside shown.begins in
    not_aside wanted text shown.newest shown.other head body state fits found says octets read
    savable all unread

pub returns-clause-shown_shut : goal.returns-clause-shown_shut
returns-clause-shown_shut g c = λ log is_stale first second s shown aside one two.
    let P : Beginning → Type 0 = λ b. BeginsSo b is_stale shown.newest shown.other in
    let unread : IsUnread shown.newest shown.other = subst P aside shown.begins in
    shut_not_aside shown.newest shown.other one two unread
