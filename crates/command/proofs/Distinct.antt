-- No two selections are of one target, after every list of calls.
use Rattle.std.proofs.Common.{◌≡◌, ℕ, ◌-◌, ◌&&◌, List, [], ◌∷◌, ◌++◌}
use Rattle.std.proofs.Common.{◌∙◌}
use Rattle.std.specs.Prelude.{◌==◌, if◌then◌else◌}
use Rattle.std.specs.List.{AllByRecursion}
use Rattle.command.specs.declared.selection.Selection.{Selection}
use Rattle.command.specs.declared.selection.SelectStage.TheVariants as stage
use Rattle.command.specs.declared.selection.Sign.TheVariants as sign
use Rattle.command.specs.State as state
use Rattle.command.specs.Judging as judging
use Rattle.command.specs.Mirrors as mirrors
use Rattle.command.specs.Calls as calls

-- ---- what becomes of one

one_more : (P : Selection → Type 0) (zs : List Selection) (y : Selection) → AllByRecursion P zs
    → P y
    → AllByRecursion P (zs ++ y ∷ [])
one_more P [] y a p = (p, tt)
one_more P (z ∷ zs) y a p = (a.0, one_more P zs y a.1 p)
