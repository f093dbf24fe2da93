use Rattle.std.proofs.Common.{◌≡◌, ◌≤◌, ◌==◌, ℕ, List, Some, length, subst, rules}
use Rattle.std.specs.Prelude.{position}
use Rattle.std.proofs.lemmas.List.{take_rest}
use Rattle.traces.proofs.LineLemmas.{found_near, found_far}
use Rattle.traces.proofs.lines.place.Goals as goal

pub returns-in-Some-clause-first : goal.returns-in-Some-clause-first
returns-in-Some-clause-first c =
    found_near (λ b. b == c.args.separator) c.args.text.now c.min-near.result c.in-Some.i
    c.in-Some.ensures.first

pub returns-in-Some-far_place-clause-first : goal.returns-in-Some-far_place-clause-first
returns-in-Some-far_place-clause-first c =
    let text = c.args.text.now in
    let near = c.min-near.result in
    let le : near ≤ length text = search rules in
    found_far (λ b. b == c.args.separator) text near (Some c.in-Some-far_place.i) le
    c.in-None.ensures.first
    (subst (λ (rest : List ℕ). Some c.in-Some-far_place.i
    ≡ position (λ b. b == c.args.separator) rest)
    (take_rest text near) c.in-Some-far_place.ensures.first)
