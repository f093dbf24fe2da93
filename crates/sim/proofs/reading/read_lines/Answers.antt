use Rattle.std.proofs.Common.{◌≡◌, false, rules, sym, ◌∙◌}
use Rattle.sim.specs.Scripts.{clashes_with}
use Rattle.sim.proofs.ScriptLemmas.{read_more}
use Rattle.sim.proofs.reading.read_lines.Goals as goal

pub loop-i-preserved : goal.loop-i-preserved
loop-i-preserved c =
    let free : clashes_with c.loop-i.directives c.in-Some.directive ≡ false = search rules in
    read_more _ _ _ _ c.in-Some.directive _ _ _ c.loop-i-test.true (sym c.is_skipped.ensures
    ∙ c.if-is_skipped.false) (sym c.in-Some.is ∙ c.in_ok-directive.ensures.said) free
    (rw c.in-Some.is at c.in_ok-directive.ensures.ranges)
    (rw c.in-Some.is at c.in_ok-directive.ensures.fits) c.in_ok-directives-in-Some.ensures
    c.loop-i.invariant
