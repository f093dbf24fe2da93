use Rattle.std.proofs.Common.{◌≡◌, length, sym, ap, ◌∙◌}
use Rattle.std.proofs.lemmas.Bool.{eqb-true}
use Rattle.sim.specs.Scripts.{ended_lines}
use Rattle.sim.proofs.ScriptLemmas.{ended_without}
use Rattle.sim.proofs.reading.lines.Goals as goal

pub returns-then-is_empty : goal.returns-then-is_empty
returns-then-is_empty c =
    let none : length c.in-Some.last.now ≡ 0 = eqb-true _ _ (sym c.is_empty.ensures
    ∙ c.if-is_empty.true) in
    ended_without _ _ c.in-Some.last c.in-Some.ensures.items none
    ∙ ap ended_lines c.in_ok-lines.ensures
