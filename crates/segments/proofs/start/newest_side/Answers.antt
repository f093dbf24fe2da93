use Rattle.std.proofs.Common.{arith}
use Rattle.segments.proofs.Fronts.{backed_by_db, backed_by_log}
use Rattle.segments.proofs.start.newest_side.Goals as goal

pub returns-in_ok-is_newest-clause-backed : goal.returns-in_ok-is_newest-clause-backed
returns-in_ok-is_newest-clause-backed g c one two =
    backed_by_db c.in_ok-is_newest.is_newest c.or_other.result (g.D.Disk.seen c.front_at.new.file)
    (g.D.Disk.seen c.is_whole.new.file) c.in_ok-first.first c.in_ok-second.second c.or_other.ensures
    (c.in_ok-first.ensures.head one)
    (omega (arith, c.if-number_of.true, c.number_of.ensures, c.number_of-2.ensures))
    c.in_ok-second.ensures.fits (λ is. c.in_ok-is_newest.ensures.some is two)
    (λ isnt. c.in_ok-is_newest.ensures.none isnt two)

pub returns-in_ok-is_newest-2-clause-backed : goal.returns-in_ok-is_newest-2-clause-backed
returns-in_ok-is_newest-2-clause-backed g c one two =
    backed_by_log c.in_ok-is_newest-2.is_newest c.or_other-else-number_of.result
    (g.D.Disk.seen c.is_whole-else-number_of.new.file) (g.D.Disk.seen c.front_at-2.new.file)
    c.in_ok-first.first c.in_ok-second.second c.or_other-else-number_of.ensures
    (c.in_ok-second.ensures.head two)
    (omega (arith, c.if-number_of.false, c.number_of.ensures, c.number_of-2.ensures))
    c.in_ok-first.ensures.fits (λ is. c.in_ok-is_newest-2.ensures.some is one)
    (λ isnt. c.in_ok-is_newest-2.ensures.none isnt one)
