use Rattle.ft12.specs.Fronts.{front_of}
use Rattle.link.specs.Matching.{IsStable}
use Rattle.link.proofs.Running.{run_keeps}
use Rattle.link.proofs.laws.runs.frame_count_bits_are_kept.Goals as goal

pub returns : goal.returns
returns c = λ settings addresses calls station some fit may.
    let law = c.front_is_computed.ensures in
    let stable : IsStable (front_of settings.size) = record {
      nothing = law.nothing settings.size;
      whole =
          law.whole settings.size;
      never = law.never settings.size;
    } in
    run_keeps settings addresses stable calls station some fit may
