use Rattle.std.proofs.Common.{List, ℕ, ◌∷◌, ◌∙◌, ap, sym}
use Rattle.session.specs.Restored.{numbers_of}
use Rattle.session.proofs.ReadBack.{next_line, numbers_are, same_numbers, no_numbers, numbers_only}
use Rattle.session.proofs.saving.read_numbers.Goals as goal

pub returns-in-Some-clause-back : goal.returns-in-Some-clause-back
returns-in-Some-clause-back g c = λ s rest sav e.
    let a = next_line _ _ _ _ _ e c.in_ok-next.ensures.some in
    let w = numbers_are s _ _ sav (c.as_slice.ensures.value ∙ a.0) c.numbers_from.ensures.table in
    (same_numbers _ (numbers_of s) _ c.in-Some.is w, a.1)

pub returns-in-None-clause-back : goal.returns-in-None-clause-back
returns-in-None-clause-back g c = λ s rest sav e wrong.
    let a = next_line _ _ _ _ _ e c.in_ok-next.ensures.some in
    let w = numbers_are s _ _ sav (c.as_slice.ensures.value ∙ a.0) c.numbers_from.ensures.table in
    no_numbers (numbers_of s) _ c.in-None.is w

pub returns-in-Some-clause-exact : goal.returns-in-Some-clause-exact
returns-in-Some-clause-exact g c =
    let line = numbers_only _ _ (sym c.numbers_from.ensures.table ∙ c.in-Some.is) in
    c.in_ok-next.ensures.some
    ∙ ap (λ (l : List ℕ). l ∷ g.L.Lines.coming c.next.new.self) (sym c.as_slice.ensures.value
    ∙ line)
