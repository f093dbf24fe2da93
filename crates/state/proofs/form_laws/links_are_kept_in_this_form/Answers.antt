use Rattle.std.proofs.Common.{List, Option, Some, ap, refl, ℕ}
use Rattle.link.specs.Restored.{received_numbers}
use Rattle.state.proofs.form_laws.links_are_kept_in_this_form.Goals as goal

pub returns-clause-line : goal.returns-clause-line
returns-clause-line c = λ p. refl

pub returns-clause-phases : goal.returns-clause-phases
returns-clause-phases c = λ sent. (refl, refl, refl, refl, refl)

pub returns-clause-received : goal.returns-clause-received
returns-clause-received c = λ o octets. (
  refl,
  λ none. ap (λ (a : Option (List ℕ)). received_numbers (Some (record o { arrived = a }))) none,
  λ is. ap (λ (a : Option (List ℕ)). received_numbers (Some (record o { arrived = a }))) is,
)

pub returns-clause-awaited : goal.returns-clause-awaited
returns-clause-awaited c = λ o. (refl, refl)

pub returns-clause-requests : goal.returns-clause-requests
returns-clause-requests c = λ fcb service. (refl, refl, refl)

pub returns-clause-services : goal.returns-clause-services
returns-clause-services c = λ asdu. (refl, refl, refl)

pub returns-clause-stations : goal.returns-clause-stations
returns-clause-stations c = λ s others. (refl, refl)

pub returns-clause-unsure : goal.returns-clause-unsure
returns-clause-unsure c = (refl, refl)

pub returns-clause-links : goal.returns-clause-links
returns-clause-links c = λ fcb silence service. (refl, refl, refl, refl)

pub returns-clause-held : goal.returns-clause-held
returns-clause-held c = (refl, refl, refl, refl, refl, refl)

pub returns-clause-bits : goal.returns-clause-bits
returns-clause-bits c = (refl, refl)
