use Rattle.std.proofs.Common.{ap, length, map, sym, ◌∙◌}
use Rattle.status.specs.Visits.{IsSeatTurn, Place, place}
use Rattle.status.specs.declared.seat.Client.{Client}
use Rattle.status.specs.declared.seat.Seat.{Seat}
use Rattle.status.proofs.VisitLemmas.{zip_written}
use Rattle.status.proofs.visitors.Visitors.turn.Goals as goal

pub returns-clause-turned : goal.returns-clause-turned
returns-clause-turned g c =
    let seen : Seat g.row.D-Stream.Denot g.D.Stream.Stream → Place (Client g.row.D-Stream.Denot) =
    λ seat. place seat.client seat.desk in
    record {
      came = c.admit.ensures.seated.0;
      asked = c.admit.ensures.seated.1;
      newcomer = c.admit.ensures.seated.2;
      between = map seen c.admit.new.self.seats.items;
      seated = c.admit.ensures.seated.3;
      turned = zip_written seen
          (IsSeatTurn g.D.Stream.Stream.given g.D.Stream.Stream.taken g.D.Stream.Stream.calls
          c.args.now_ms c.args.snapshot.now)
          c.admit.new.self.seats.items c.deref_mut.result.now c.turn_each.new.seats
          c.admit.new.self.seats.len c.deref_mut.ensures.value
          (sym c.deref_mut.ensures.len ∙ ap length c.deref_mut.ensures.value)
          c.turn_each.ensures.turned;
    }
