use Rattle.ft12.specs.Fronts.{front_of}
use Rattle.link.specs.Matching.{IsStable}
use Rattle.link.proofs.Called.{start_matches, receive_matches, due_matches, ask_matches}
use Rattle.link.proofs.laws.master_matches_the_log.Goals as goal

pub returns-clause-start : goal.returns-clause-start
returns-clause-start c = start_matches

pub returns-clause-octets : goal.returns-clause-octets
returns-clause-octets c = λ settings addresses p e octets t.
    let law = c.front_is_computed.ensures in
    let stable : IsStable (front_of settings.size) = record {
      nothing = law.nothing settings.size;
      whole =
          law.whole settings.size;
      never = law.never settings.size;
    } in
    receive_matches settings addresses p e octets stable t

pub returns-clause-due : goal.returns-clause-due
returns-clause-due c = due_matches

pub returns-clause-next : goal.returns-clause-next
returns-clause-next c = λ settings addresses p e now may_poll waiting carried t.
    let law = c.front_is_computed.ensures in
    let stable : IsStable (front_of settings.size) = record {
      nothing = law.nothing settings.size;
      whole =
          law.whole settings.size;
      never = law.never settings.size;
    } in
    ask_matches settings addresses p e now may_poll waiting stable carried t
