use Rattle.std.proofs.Common.{◌≡◌, IfOk, IfSome, None, Ok, Err, Option, Result, Some, refl}
use Rattle.std.specs.Prelude.{MatchOption}
use Rattle.state.proofs.description.text.said_by.Goals as goal

some_or_none : {C E : Type 0} (P : C → Type 0) (r : Result (Option C) E)
    → IfOk r (λ s. IfSome s P) → IfOk r (λ s. s ≡ None → (c : C) → P c → ⊥)
    → IfOk r (λ s. MatchOption s ((c : C) → P c → ⊥) P)
some_or_none P (Ok (Some c)) some none = some
some_or_none P (Ok None) some none = none refl
some_or_none P (Err e) some none = tt

pub returns : goal.returns
returns c =
    some_or_none _ c.settings_said.result c.settings_said.ensures.some
    c.settings_said.ensures.none
