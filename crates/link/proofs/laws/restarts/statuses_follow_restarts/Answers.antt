use Rattle.ft12.specs.Fronts.{front_of}
use Rattle.link.specs.Matching.{IsStable}
use Rattle.link.proofs.Probing.{follow}
use Rattle.link.proofs.SparingStatuses.{ask_none}
use Rattle.link.proofs.laws.restarts.statuses_follow_restarts.Goals as goal

pub returns-clause-unsure : goal.returns-clause-unsure
returns-clause-unsure c = follow

pub returns-clause-none : goal.returns-clause-none
returns-clause-none c = λ settings addresses calls station some fit may once.
    let law = c.front_is_computed.ensures in
    let stable : IsStable (front_of settings.size) = record {
      nothing = law.nothing settings.size;
      whole = law.whole settings.size;
      never = law.never settings.size;
    } in
    ask_none settings addresses stable calls station some fit may once
