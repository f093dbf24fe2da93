use Rattle.std.proofs.Common.{refl}
use Rattle.state.proofs.form_laws.commands_are_kept_in_this_form.Goals as goal

pub returns-clause-all : goal.returns-clause-all
returns-clause-all c = λ s. refl

pub returns-clause-lists : goal.returns-clause-lists
returns-clause-lists c = λ lines. refl

pub returns-clause-waiting : goal.returns-clause-waiting
returns-clause-waiting c = λ w. refl

pub returns-clause-lines : goal.returns-clause-lines
returns-clause-lines c = λ received. (refl, refl, refl)

pub returns-clause-selections : goal.returns-clause-selections
returns-clause-selections c = λ z. refl

pub returns-clause-stages : goal.returns-clause-stages
returns-clause-stages c = λ n. (refl, refl, refl, refl, refl, refl, refl, refl)

pub returns-clause-sendings : goal.returns-clause-sendings
returns-clause-sendings c = λ z. refl

pub returns-clause-tags : goal.returns-clause-tags
returns-clause-tags c = λ tag. (refl, refl)
