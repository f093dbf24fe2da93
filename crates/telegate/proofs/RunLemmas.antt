-- The end of a run.
use Rattle.std.proofs.Common.{◌≡◌, ℕ, subst, ◌∙◌, sym}
use Rattle.gateway.specs.Runs.{UnlessDevice}
use Rattle.std.specs.Prelude.{Result, Ok, Err}
use Rattle.std.specs.Result.{IsErrAnd}
use Rattle.gateway.specs.declared.runs.End.{End}
use Rattle.gateway.specs.declared.runs.End.TheVariants.{Finished}
use Rattle.telegate.specs.Running.{HasRun}

-- what is promised of a fault that is passed on
pub as_err : {T E : Type 0} (P : Result T E → Type 0) (r : Result T E) (e : E)
    → IsErrAnd r (λ x. x ≡ e) → P (Err e) → P r
as_err {E = E} P (Ok x) e is h = absurd is
as_err {E = E} P (Err x) e is h = subst (λ (y : E). P (Err y)) (sym is) h

pub at_finish : (end : End) (P : Type 0) → end ≡ Finished → UnlessDevice end P → P
at_finish end P is promised = subst (λ (e : End). UnlessDevice e P) is promised

-- a run of a device that had never failed
pub ran_whole : {A E : Type 0} (before after : ℕ) (result : Result A E) → before ≡ 0
    → HasRun before after result → HasRun 0 after result
ran_whole before after result none ran =
    subst (λ (b : ℕ). HasRun b after result) none ran
