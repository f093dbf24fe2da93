use Rattle.std.proofs.Common.{arith}
use Rattle.ft12.specs.Fronts.{front_of}
use Rattle.link.specs.Matching.{IsStable}
use Rattle.link.specs.Visits.{whole_visit}
use Rattle.link.proofs.Visiting.{visit_room, whole_room}
use Rattle.link.proofs.Fairness.{run_visits}
use Rattle.link.proofs.Resets.{visit_resets}
use Rattle.link.proofs.laws.visits.turns_end.Goals as goal

pub returns-clause-visits : goal.returns-clause-visits
returns-clause-visits c = λ settings addresses calls some fit burst may.
    let law = c.front_is_computed.ensures in
    let stable : IsStable (front_of settings.size) = record {
      nothing = law.nothing settings.size;
      whole =
          law.whole settings.size;
      never = law.never settings.size;
    } in
    run_visits settings addresses stable calls some fit burst may

pub returns-clause-most : goal.returns-clause-most
returns-clause-most c = λ settings station link xs v.
    omega (
      arith,
      visit_room settings station link (whole_visit settings link) xs v,
      whole_room
          settings link,
    )

pub returns-clause-resets : goal.returns-clause-resets
returns-clause-resets c = visit_resets
