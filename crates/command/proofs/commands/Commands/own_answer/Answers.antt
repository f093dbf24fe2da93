use Rattle.std.proofs.Common.{◌≤◌, List, ℕ, length, subst, ap, sym, ◌∙◌}
use Rattle.std.specs.Prelude.{Some}
use Rattle.command.specs.State.{State, first_answer}
use Rattle.command.proofs.Kept.{first_some, first_fits}
use Rattle.command.proofs.commands.Commands.own_answer.Goals as goal

pub returns-clause-some : goal.returns-clause-some
returns-clause-some c =
    ap first_answer (sym (ap (λ (s : State). s.answers) c.self.view_is))
    ∙ first_some _ _ (sym c.in_ok-answer.ensures)
    ∙ ap (λ (xs : List ℕ). Some xs) (sym c.as_slice.ensures.value)

pub returns-clause-fits : goal.returns-clause-fits
returns-clause-fits c =
    subst (λ (xs : List ℕ). (9 ≤ length xs) × (length xs ≤ 249)) (sym c.as_slice.ensures.value)
    (first_fits _ _ c.self.invariant.asdus (sym c.in_ok-answer.ensures))
