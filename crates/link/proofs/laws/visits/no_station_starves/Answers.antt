use Rattle.ft12.specs.Fronts.{front_of}
use Rattle.link.specs.Matching.{IsStable}
use Rattle.link.proofs.Fairness.{run_waits}
use Rattle.link.proofs.laws.visits.no_station_starves.Goals as goal

pub returns : goal.returns
returns c = λ settings addresses first later station some fit burst there may_first may_later wants.
    let law = c.front_is_computed.ensures in
    let stable : IsStable (front_of settings.size) = record {
      nothing = law.nothing settings.size;
      whole =
          law.whole settings.size;
      never = law.never settings.size;
    } in
    run_waits settings addresses stable first later station some fit burst there may_first may_later
    wants
