use Rattle.std.proofs.Common.{◌≡◌, List, ℕ, Bool, Bor, IfOk, Option, Result, Some, subst, sym}
use Rattle.std.specs.Prelude.{option_map}
use Rattle.std.specs.declared.alloc.AllocError.{AllocError}
use Rattle.state.specs.Sights.{AreChanged}
use Rattle.state.specs.declared.looking.Seen.{Seen}
use Rattle.state.specs.StateText.{IsMovedFrom}
use Rattle.state.proofs.description.text.is_moved.Goals as goal

lent_by : (before written text : List ℕ) (o : Result Bool AllocError) → before ≡ written
    → IfOk o (AreChanged before text) → IfOk o (AreChanged written text)
lent_by before written text o is = subst (λ w. IfOk o (AreChanged w text)) is

given_by : (given : Option (Bor (List ℕ))) (text : Bor (List ℕ)) (s : Seen)
    (o : Result Bool AllocError) → given ≡ Some text
    → IfOk o (AreChanged s.settings.items text.now)
    → IfOk o (IsMovedFrom (option_map (λ t. t.now) given) (Some s))
given_by given text s o is =
    subst (λ g. IfOk o (IsMovedFrom (option_map (λ t. t.now) g) (Some s))) (sym is)

pub returns-in-Some : goal.returns-in-Some
returns-in-Some c =
    given_by c.args.given c.in-Some.text c.args.seen.now c.are_changed.result c.in-Some.is
    (lent_by c.deref.result.now c.args.seen.now.settings.items c.in-Some.text.now
    c.are_changed.result c.deref.ensures.value c.are_changed.ensures)
