use Rattle.state.proofs.CrashLines.{all_read, lines_left}
use Rattle.state.proofs.laws.no_crash_leaves_another_line.Goals as goal

pub returns-clause-left : goal.returns-clause-left
returns-clause-left g c = λ mine number body later synced file has is.
    lines_left (g.D.Disk.may_leave mine) number body later synced file has is

pub returns-clause-read : goal.returns-clause-read
returns-clause-read g c = λ mine number body later synced file has is.
    all_read (g.D.Disk.may_leave mine) number body later synced file has is
