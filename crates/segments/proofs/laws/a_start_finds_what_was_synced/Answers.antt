use Rattle.segments.proofs.Crashes.{newest_left, nothing_else_left, synced_left, whole_left}
use Rattle.segments.proofs.laws.a_start_finds_what_was_synced.Goals as goal

pub returns-clause-whole : goal.returns-clause-whole
returns-clause-whole g c = λ mine number body writes file s is.
    whole_left (g.D.Disk.may_leave mine) number body writes file s is

pub returns-clause-newest : goal.returns-clause-newest
returns-clause-newest g c = λ mine spare number body writes file two newest other head text s older
    is is' both wins fits found.
    newest_left (g.D.Disk.may_leave mine) (g.D.Disk.may_leave spare) number body writes file two
    newest other head text s older is is' both wins fits found

pub returns-clause-synced : goal.returns-clause-synced
returns-clause-synced g c = λ mine number body writes file s is.
    synced_left (g.D.Disk.may_leave mine) number body writes file s is

pub returns-clause-no_other : goal.returns-clause-no_other
returns-clause-no_other g c = λ mine number body writes late file s plain none is.
    nothing_else_left (g.D.Disk.may_leave mine) number body writes file s is late plain none
