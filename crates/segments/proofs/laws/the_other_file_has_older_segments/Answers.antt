use Rattle.segments.proofs.Crashes.{finished_whole, shut_older, survived_older, unshut_older}
use Rattle.segments.proofs.laws.the_other_file_has_older_segments.Goals as goal

pub returns-clause-survived : goal.returns-clause-survived
returns-clause-survived g c = λ spare number next body writes s less.
    survived_older (g.D.Disk.may_leave spare) number next body writes s less

pub returns-clause-shut : goal.returns-clause-shut
returns-clause-shut g c = λ spare number shut. shut_older (g.D.Disk.may_leave spare) number shut

pub returns-clause-unshut : goal.returns-clause-unshut
returns-clause-unshut g c = λ old new number kept older.
    unshut_older (g.D.Disk.may_leave old) (g.D.Disk.may_leave new) number kept older

pub returns-clause-finished : goal.returns-clause-finished
returns-clause-finished g c = λ spare number body file head text fits fits' only is found.
    finished_whole (g.D.Disk.may_leave spare) number body file head text fits fits' only is found
