use Rattle.std.proofs.Common.{◌∙◌}
use Rattle.gateway.specs.Restored.{clock_of}
use Rattle.gateway.proofs.ReadBack.{next_line, clock_is, clock_said, same_clock, no_clock}
use Rattle.gateway.proofs.engine.restoring.read_clock.Goals as goal

pub returns-in-Some-clause-back : goal.returns-in-Some-clause-back
returns-in-Some-clause-back g c = λ s rest e.
    let a = next_line _ _ _ _ _ e c.in_ok-next.ensures.some in
    let w = clock_is s _ _ (c.as_slice.ensures.value ∙ a.0) c.clock_from.ensures in
    (same_clock _ (clock_of s) _ c.in-Some.is w, a.1)

pub returns-in-Some-clause-exact : goal.returns-in-Some-clause-exact
returns-in-Some-clause-exact g c =
    clock_said _ _ _ _ _ _ c.in_ok-next.ensures.some c.as_slice.ensures.value c.clock_from.ensures
    c.in-Some.is

pub returns-in-None-clause-back : goal.returns-in-None-clause-back
returns-in-None-clause-back g c = λ s rest e wrong.
    let a = next_line _ _ _ _ _ e c.in_ok-next.ensures.some in
    let w = clock_is s _ _ (c.as_slice.ensures.value ∙ a.0) c.clock_from.ensures in
    no_clock (clock_of s) _ c.in-None.is w
