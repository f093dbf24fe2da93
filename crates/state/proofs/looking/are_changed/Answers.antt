use Rattle.std.proofs.Common.{◌≡◌, List, ℕ, Ok, Option, Some, None, IfSome, refl, subst}
use Rattle.gateway.specs.Config.{Settings}
use Rattle.settings.specs.Settings.{IsReadOfText}
use Rattle.state.proofs.GoingOn.{changed_by}
use Rattle.state.proofs.looking.are_changed.Goals as goal

none_by : {A : Type 0} (o : Option A) → ((x : A) → o ≡ Some x → ⊥) → o ≡ None
none_by None never = refl
none_by (Some x) never = absurd (never x refl)

read_by : (text : List ℕ) (o : Option Settings) (c : Settings) → o ≡ Some c
    → IfSome o (λ s. IsReadOfText text (Ok s)) → IsReadOfText text (Ok c)
read_by text o c is some =
    subst (λ (p : Option Settings). IfSome p (λ s. IsReadOfText text (Ok s))) is some

pub returns-in_default : goal.returns-in_default
returns-in_default c = λ by text_says written_says.
    c.in_ok-before.ensures.none (none_by _ c.in_default.not-Some) by written_says

pub returns-in_default-2 : goal.returns-in_default-2
returns-in_default-2 c = λ by text_says written_says.
    c.in_ok-now.ensures.none (none_by _ c.in_default-2.not-Some) by text_says

pub returns : goal.returns
returns c =
    changed_by c.args.written.now c.args.text.now c.in-Some.before c.in-Some-2.now
    c.are_same.result
    (read_by c.args.written.now c.in_ok-before.field-0 c.in-Some.before c.in-Some.is
    c.in_ok-before.ensures.some)
    (read_by c.args.text.now c.in_ok-now.field-0 c.in-Some-2.now c.in-Some-2.is
    c.in_ok-now.ensures.some)
    c.are_same.ensures.same c.are_same.ensures.others
