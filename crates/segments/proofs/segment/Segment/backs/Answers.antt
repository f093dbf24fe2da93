use Rattle.std.proofs.Common.{arith}
use Rattle.std.proofs.lemmas.Bool.{leb-false, leb-true}
use Rattle.segments.proofs.Crashes.{backs_other, newer_front, stands}
use Rattle.segments.proofs.segment.Segment.backs.Goals as goal

pub returns-clause-backed : goal.returns-clause-backed
returns-clause-backed g c is clean =
    let s = c.args.self.now in
    backs_other (g.D.Disk.may_leave s.file) _ s.number c.in_ok-front.front
    (stands (g.D.Disk.may_leave s.file) s.number s.durable s.size s.written.has.body
    s.written.has.writes s.fits s.safe (omega (arith, s.ordered, s.within)) s.long s.kept)
    (c.in_ok-front.ensures.head clean)
    (omega (arith, c.number_of.ensures, leb-true _ _ is))

pub returns-clause-newer : goal.returns-clause-newer
returns-clause-newer g c isnt clean =
    newer_front _ c.in_ok-front.front c.args.self.now.number (c.in_ok-front.ensures.head clean)
    c.in_ok-front.ensures.fits
    (omega (arith, c.number_of.ensures, leb-false _ _ isnt))
