use Rattle.std.proofs.Common.{arith, refl, sym, ◌∙◌}
use Rattle.status.specs.Visits.{Goes, IsOver, Stays}
use Rattle.status.proofs.seat.Seat.turn.Goals as goal

pub returns-then-saturating_sub-ge-STAY_MS-clause-turned :
    goal.returns-then-saturating_sub-ge-STAY_MS-clause-turned
returns-then-saturating_sub-ge-STAY_MS-clause-turned g c =
    IsOver c.in-Some.client (sym c.take.ensures.value ∙ c.in-Some.is) (omega arith)
    c.take.ensures.after

pub returns-then-take_turn-clause-turned : goal.returns-then-take_turn-clause-turned
returns-then-take_turn-clause-turned g c =
    Stays c.in-Some.client c.take_turn.new.client (sym c.take.ensures.value ∙ c.in-Some.is)
    (omega arith)
    (record {
      turn = c.if-take_turn.ensures.turn;
      gives = c.if-take_turn.ensures.gives;
      desk = c.if-take_turn.ensures.answers;
      kept = c.if-take_turn.ensures.kept;
      since = c.if-take_turn.ensures.since;
    })
    refl

pub returns-else-take_turn-clause-turned : goal.returns-else-take_turn-clause-turned
returns-else-take_turn-clause-turned g c =
    Goes c.in-Some.client c.take_turn.new.client (sym c.take.ensures.value ∙ c.in-Some.is)
    (omega arith) c.if-take_turn.ensures.turn c.take.ensures.after
