use Rattle.std.proofs.Common.{◌∷◌, Option, ap, refl}
use Rattle.gateway.specs.Restored.{wall_numbers}
use Rattle.gateway.specs.declared.walls.Wall.{Wall}
use Rattle.state.proofs.form_laws.states_are_kept_in_this_form.Goals as goal

pub returns-clause-order : goal.returns-clause-order
returns-clause-order c = λ s. refl

pub returns-clause-no_clock : goal.returns-clause-no_clock
returns-clause-no_clock c = λ s none. ap (λ (w : Option Wall). s.moment ∷ wall_numbers w) none

pub returns-clause-clock : goal.returns-clause-clock
returns-clause-clock c = λ s wall is. ap (λ (w : Option Wall). s.moment ∷ wall_numbers w) is

pub returns-clause-counts : goal.returns-clause-counts
returns-clause-counts c = λ t. refl

pub returns-clause-so_far : goal.returns-clause-so_far
returns-clause-so_far c = λ octets. (refl, refl)

pub returns-clause-queue : goal.returns-clause-queue
returns-clause-queue c = λ q. refl
