use Rattle.std.proofs.Common.{◌∷◌, ap, refl}
use Rattle.words.specs.UnitFacts.{condition_by, lines_by}
use Rattle.words.proofs.facts.laws.octets_that_are_no_frame_are_a_fault.Goals as goal

pub returns-clause-line : goal.returns-clause-line
returns-clause-line c = λ s n place why. (refl, refl, refl)

pub returns-clause-connection : goal.returns-clause-connection
returns-clause-connection c = λ n place why. (refl, refl, refl, refl)

pub returns-clause-asdus : goal.returns-clause-asdus
returns-clause-asdus c = λ s first n octets h.
    (ap (lines_by s (first ∷ octets)) h, ap condition_by h)

pub returns-clause-alone : goal.returns-clause-alone
returns-clause-alone c = λ s f. (refl, refl, refl, refl)
