use Rattle.std.proofs.Common.{◌≡◌, ◌≤◌, length, slice_index, subst, ℕ, List, rules}
use Rattle.std.proofs.lemmas.List.{take_rest}
use Rattle.traces.specs.FirstLines.{IsValued}
use Rattle.traces.proofs.FirstLineLemmas.{valued_behind}
use Rattle.traces.proofs.event.event_behind.Goals as goal

pub returns-in-32 : goal.returns-in-32
returns-in-32 c =
    let text = c.args.text.now in
    let le : 2 ≤ length text = search rules in
    let space : slice_index text 1 ≡ 32 = search rules in
    valued_behind c.args.now text c.valued.result le space
    (subst (λ (rest : List ℕ). IsValued c.args.now (slice_index text 0) rest c.valued.result)
    (take_rest text 2)
    c.valued.ensures)
