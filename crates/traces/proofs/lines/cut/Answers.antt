use Rattle.std.proofs.Common.{◌+◌, ◌==◌, ◌∷◌, take, sym, ap, ◌∙◌}
use Rattle.std.proofs.lemmas.List.{take_rest}
use Rattle.std.specs.List.{slice_split}
use Rattle.traces.proofs.LineLemmas.{cut_here, cut_nowhere}
use Rattle.traces.proofs.lines.cut.Goals as goal

pub returns-in-Some : goal.returns-in-Some
returns-in-Some c =
    let text = c.args.text.now in
    cut_here text c.args.separator c.in-Some.i (sym c.in-Some.ensures.first)
    ∙ ap (λ rest. take c.in-Some.i text ∷ slice_split (λ b. b == c.args.separator) rest)
    (sym (take_rest text (c.in-Some.i + 1)))

pub returns-in-None : goal.returns-in-None
returns-in-None c = cut_nowhere c.args.text.now c.args.separator (sym c.in-None.ensures.first)
