use Rattle.std.proofs.Common.{refl}
use Rattle.state.proofs.form_laws.sessions_are_kept_in_this_form.Goals as goal

pub returns-clause-session : goal.returns-clause-session
returns-clause-session c = λ s. refl

pub returns-clause-frames : goal.returns-clause-frames
returns-clause-frames c = λ frame frames. (refl, refl)

pub returns-clause-kinds : goal.returns-clause-kinds
returns-clause-kinds c = (refl, refl)

pub returns-clause-transfers : goal.returns-clause-transfers
returns-clause-transfers c = (refl, refl, refl, refl)

pub returns-clause-replies : goal.returns-clause-replies
returns-clause-replies c = (refl, refl, refl, refl, refl, refl, refl)

pub returns-clause-moments : goal.returns-clause-moments
returns-clause-moments c = λ moment. (refl, refl)
