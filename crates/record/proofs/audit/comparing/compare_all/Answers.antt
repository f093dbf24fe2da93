use Rattle.std.proofs.Common.{◌+◌, ℕ, List, [], Option, length, ap, sym, subst}
use Rattle.std.specs.Option.{option_copied}
use Rattle.traces.specs.Fields.{parts_after}
use Rattle.record.specs.Comparing.{AreWhole, GoesOn}
use Rattle.record.specs.Lines.{whole_lines}
use Rattle.record.proofs.CompareLemmas.{all_same}
use Rattle.record.proofs.audit.comparing.compare_all.Goals as goal

pub returns-in-Some-behind_all : goal.returns-in-Some-behind_all
returns-in-Some-behind_all c =
    let run = c.args.run.now in
    let rest = c.in-Some-behind_all.rest.now in
    subst (λ (l : Option (List ℕ)). GoesOn c.args.first (parts_after 10 l) (whole_lines run)
    (c.args.first + length (parts_after 10 l)) [] (whole_lines rest)
    × (AreWhole run → AreWhole rest))
    (sym (ap option_copied c.in-Some.is))
    (all_same c.args.first c.in-Some.text.now run rest c.in-Some-behind_all.ensures.0
    c.in-Some-behind_all.ensures.1)
