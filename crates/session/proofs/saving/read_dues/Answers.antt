use Rattle.std.proofs.Common.{List, ℕ, ◌∷◌, ◌∙◌, ap, sym}
use Rattle.session.specs.Restored.{dues_of}
use Rattle.session.proofs.ReadBack.{next_line, dues_are, same_dues, no_dues, dues_only}
use Rattle.session.proofs.saving.read_dues.Goals as goal

pub returns-in-Some-clause-back : goal.returns-in-Some-clause-back
returns-in-Some-clause-back g c = λ s rest sav e.
    let a = next_line _ _ _ _ _ e c.in_ok-next.ensures.some in
    let w = dues_are s _ _ sav (c.as_slice.ensures.value ∙ a.0) c.dues_from.ensures in
    (same_dues _ (dues_of s) _ c.in-Some.is w, a.1)

pub returns-in-None-clause-back : goal.returns-in-None-clause-back
returns-in-None-clause-back g c = λ s rest sav e wrong.
    let a = next_line _ _ _ _ _ e c.in_ok-next.ensures.some in
    let w = dues_are s _ _ sav (c.as_slice.ensures.value ∙ a.0) c.dues_from.ensures in
    no_dues (dues_of s) _ c.in-None.is w

pub returns-in-Some-clause-exact : goal.returns-in-Some-clause-exact
returns-in-Some-clause-exact g c =
    let line = dues_only _ _ (sym c.dues_from.ensures ∙ c.in-Some.is) in
    c.in_ok-next.ensures.some
    ∙ ap (λ (l : List ℕ). l ∷ g.L.Lines.coming c.next.new.self) (sym c.as_slice.ensures.value
    ∙ line)
