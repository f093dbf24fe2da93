use Rattle.std.proofs.Common.{List, ℕ, ◌∷◌, ◌∙◌, ap, sym}
use Rattle.session.proofs.ReadBack.{next_line, frame_is, same_frame, no_frame, frame_only}
use Rattle.session.proofs.saving.read_frame.Goals as goal

pub returns-in-Some-clause-back : goal.returns-in-Some-clause-back
returns-in-Some-clause-back g c = λ f rest e.
    let a = next_line _ _ _ _ _ e c.in_ok-next.ensures.some in
    let w = frame_is f _ _ (c.as_slice.ensures.value ∙ a.0) c.frame_from.ensures in
    (same_frame _ f _ c.in-Some.is w, a.1)

pub returns-in-None-clause-back : goal.returns-in-None-clause-back
returns-in-None-clause-back g c = λ f rest e wrong.
    let a = next_line _ _ _ _ _ e c.in_ok-next.ensures.some in
    let w = frame_is f _ _ (c.as_slice.ensures.value ∙ a.0) c.frame_from.ensures in
    no_frame f _ c.in-None.is w

pub returns-in-Some-clause-exact : goal.returns-in-Some-clause-exact
returns-in-Some-clause-exact g c =
    let line = frame_only _ _ (sym c.frame_from.ensures ∙ c.in-Some.is) in
    c.in_ok-next.ensures.some
    ∙ ap (λ (l : List ℕ). l ∷ g.L.Lines.coming c.next.new.self) (sym c.as_slice.ensures.value
    ∙ line)
