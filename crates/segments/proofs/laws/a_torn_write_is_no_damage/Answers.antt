use Rattle.segments.proofs.Crashes.{undamaged_left}
use Rattle.segments.proofs.laws.a_torn_write_is_no_damage.Goals as goal

pub returns : goal.returns
returns g c = λ mine number body writes late file s plain none is.
    undamaged_left (g.D.Disk.may_leave mine) number body writes file s is late plain none
