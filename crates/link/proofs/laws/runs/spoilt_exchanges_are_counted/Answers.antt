use Rattle.ft12.specs.Fronts.{front_of}
use Rattle.link.specs.Matching.{IsStable}
use Rattle.link.proofs.Running.{run_counts}
use Rattle.link.proofs.Spoilt.{spoilt_means}
use Rattle.link.proofs.laws.runs.spoilt_exchanges_are_counted.Goals as goal

pub returns-clause-count : goal.returns-clause-count
returns-clause-count c = λ settings addresses calls some fit may.
    let law = c.front_is_computed.ensures in
    let stable : IsStable (front_of settings.size) = record {
      nothing = law.nothing settings.size;
      whole =
          law.whole settings.size;
      never = law.never settings.size;
    } in
    run_counts settings addresses stable calls some fit may

pub returns-clause-spoilt : goal.returns-clause-spoilt
returns-clause-spoilt c = spoilt_means
