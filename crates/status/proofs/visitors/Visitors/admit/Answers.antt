use Rattle.std.proofs.Common.{None, Some, ap, arith, get_or, length, refl, sym, ◌∙◌}
use Rattle.status.specs.Seats.{cleared}
use Rattle.status.specs.Visits.{Place, place}
use Rattle.status.specs.declared.seat.Client.{Client}
use Rattle.status.specs.declared.seat.Seat.{Seat}
use Rattle.status.proofs.VisitLemmas.{guest_of, has_seat, is_newcomer, is_nobody}
use Rattle.status.proofs.VisitLemmas.{is_sent_away, place_same}
use Rattle.status.proofs.visitors.Visitors.admit.Goals as goal

pub returns-then-is_free-clause-seated : goal.returns-then-is_free-clause-seated
returns-then-is_free-clause-seated g c =
    let seen : Seat g.row.D-Stream.Denot g.D.Stream.Stream → Place (Client g.row.D-Stream.Denot) =
    λ seat. place seat.client seat.desk in
    let guest = guest_of c.in-Some.stream c.args.now_ms in
    let there = get_or c.loop-seat.seat-items c.loop-seat.seat-index c.seat-item.result in (
      Some guest,
      c.in-Some.ensures.arrivals,
      is_newcomer g.D.Stream.Stream.given g.D.Stream.Stream.taken c.in-Some.stream c.args.now_ms
          c.in-Some.ensures.given c.in-Some.ensures.taken,
      has_seat seen c.args.self.now.seats.items c.loop-seat.seat-items c.args.self.now.seats.len
          c.loop-seat.seat-index (c.loop-seat.invariant.same ∙ c.deref_mut-seat-items.ensures.value)
          (sym c.deref_mut-seat-items.ensures.len ∙ ap length c.deref_mut-seat-items.ensures.value)
          c.loop-seat.invariant.taken c.seat-item.result c.admit.new.self guest there.desk
          (omega arith)
          (place_same there.client None there.desk there.desk
          (is_nobody there.client c.if-is_free.ensures) refl)
          (place_same c.admit.new.self.client (Some guest) c.admit.new.self.desk
          (cleared there.desk) c.admit.ensures.here c.admit.ensures.clear),
    )

pub returns-clause-seated : goal.returns-clause-seated
returns-clause-seated g c =
    let seen : Seat g.row.D-Stream.Denot g.D.Stream.Stream → Place (Client g.row.D-Stream.Denot) =
    λ seat. place seat.client seat.desk in
    let guest = guest_of c.in-Some.stream c.args.now_ms in (
      Some guest,
      c.in-Some.ensures.arrivals,
      is_newcomer g.D.Stream.Stream.given g.D.Stream.Stream.taken c.in-Some.stream c.args.now_ms
          c.in-Some.ensures.given c.in-Some.ensures.taken,
      is_sent_away seen c.args.self.now.seats.items c.loop-seat.seat-items
          c.args.self.now.seats.len c.loop-seat.seat-index
          (c.loop-seat.invariant.same ∙ c.deref_mut-seat-items.ensures.value)
          (sym c.deref_mut-seat-items.ensures.len ∙ ap length c.deref_mut-seat-items.ensures.value)
          c.loop-seat.invariant.taken guest (omega arith),
    )
