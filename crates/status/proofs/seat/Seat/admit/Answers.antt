use Rattle.status.specs.Seats.{IsKept}
use Rattle.status.proofs.SeatLemmas.{for_some, kept_new}
use Rattle.status.proofs.seat.Seat.admit.Goals as goal

pub invariant_of-self : goal.invariant_of-self
invariant_of-self g c = record {
  kept =
      for_some (λ x. IsKept (g.S.Stream.given x.stream) (g.S.Stream.taken x.stream) x.stage x.sent
      c.clear.new.self) _
      (kept_new (g.S.Stream.given c.args.stream) (g.S.Stream.taken c.args.stream)
      c.args.self.now.desk c.clear.new.self c.requires.given c.requires.taken c.clear.ensures);
}
