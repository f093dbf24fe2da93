use Rattle.std.proofs.Common.{◌∙◌}
use Rattle.gateway.proofs.ReadBack.{next_line, tally_is, tally_said, same_tally, no_tally}
use Rattle.gateway.proofs.engine.restoring.read_tally.Goals as goal

pub returns-in-Some-clause-back : goal.returns-in-Some-clause-back
returns-in-Some-clause-back g c = λ t rest e.
    let a = next_line _ _ _ _ _ e c.in_ok-next.ensures.some in
    let w = tally_is t _ _ (c.as_slice.ensures.value ∙ a.0) c.tally_from.ensures in
    (same_tally _ t _ c.in-Some.is w, a.1)

pub returns-in-Some-clause-exact : goal.returns-in-Some-clause-exact
returns-in-Some-clause-exact g c =
    tally_said _ _ _ _ _ _ c.in_ok-next.ensures.some c.as_slice.ensures.value c.tally_from.ensures
    c.in-Some.is

pub returns-in-None-clause-back : goal.returns-in-None-clause-back
returns-in-None-clause-back g c = λ t rest e wrong.
    let a = next_line _ _ _ _ _ e c.in_ok-next.ensures.some in
    let w = tally_is t _ _ (c.as_slice.ensures.value ∙ a.0) c.tally_from.ensures in
    no_tally t _ c.in-None.is w
