use Rattle.settings.proofs.UnknownLemmas.{least_of}
use Rattle.settings.proofs.unknown.refuse_unknown.Goals as goal

pub returns-in-Some : goal.returns-in-Some
returns-in-Some c =
    least_of c.in_ok-unknown_paths.field-0.items c.in-Some.path _ c.in_ok-unknown_paths.ensures
    c.in-Some.ensures.0
    c.in-Some.ensures.1
