use Rattle.ft12.specs.Fronts.{front_of}
use Rattle.link.specs.Matching.{IsStable}
use Rattle.link.proofs.OneVisits.{turns_are_visits}
use Rattle.link.proofs.laws.visits.a_turn_is_one_visit.Goals as goal

pub returns : goal.returns
returns c = λ settings addresses calls some fit burst may.
    let law = c.front_is_computed.ensures in
    let stable : IsStable (front_of settings.size) = record {
      nothing = law.nothing settings.size;
      whole =
          law.whole settings.size;
      never = law.never settings.size;
    } in
    turns_are_visits settings addresses stable calls some fit burst may
