use Rattle.std.proofs.Common.{◌∙◌, ◌≡◌, ◌-◌, ℕ, ap, arith, length, length-append, subst, sym, true}
use Rattle.segments.specs.Crash.{BeginsWith}
use Rattle.segments.specs.Crashes.{log_text}
use Rattle.segments.specs.Room.{is_room}
use Rattle.segments.proofs.CrashLemmas.{length_text}
use Rattle.segments.proofs.Crashes.{stands}
use Rattle.segments.proofs.segment.Segment.survives.Goals as goal

pub returns-clause-stands : goal.returns-clause-stands
returns-clause-stands g c =
    let s = c.args.self.now in
    stands (g.D.Disk.may_leave s.file) s.number s.durable s.size s.written.has.body
    s.written.has.writes s.fits s.safe (omega (arith, s.ordered, s.within)) s.long s.kept

pub returns-clause-survives : goal.returns-clause-survives
returns-clause-survives g c are =
    let s = c.args.self.now in
    let w = s.written.has in
    record {
      fits = s.fits;
      are = are;
      size = s.size;
      long = s.long;
      blocks = subst (λ (n : ℕ). is_room (s.size - n) ≡ true) s.begun s.blocks;
      room = omega (arith, s.safe, s.ordered, s.within);
      kept = subst (λ (n : ℕ). BeginsWith (g.D.Disk.may_leave s.file) n
          (log_text s.number w.body w.writes)) s.safe s.kept;
    }

pub returns-clause-mixed : goal.returns-clause-mixed
returns-clause-mixed g c mixing = c.args.self.now.mixed mixing

pub returns-clause-octets : goal.returns-clause-octets
returns-clause-octets g c on =
    let s = c.args.self.now in
    let w = s.written.has in
    sym (length_text s.stored (g.D.Disk.seen s.file) s.page.items
    (omega (arith, s.within, s.sized)))
    ∙ ap length (s.text on) ∙ length-append (log_text s.number w.body w.writes) w.lines
