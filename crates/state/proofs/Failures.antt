-- Why a store may have failed.
use Rattle.std.proofs.Common.{◌≡◌, ◌<◌, Bool, ◌∷◌, ◌++◌, sym, subst}
use Rattle.std.proofs.lemmas.Bool.{ltb-true}
use Rattle.std.specs.List.{AllByRecursion}
use Rattle.gateway.specs.Log.{Log, LogEntry}
use Rattle.state.specs.Deeds.{Deeds, AreRight, GivenUp, arrived, grown, latest}
use Rattle.state.specs.Lines.{IsWritable}
use Rattle.state.specs.declared.loss.Loss.{Loss}
use Rattle.state.specs.declared.loss.StoreFault.TheVariants.{Full, Unwritable}
use Rattle.state.proofs.Histories.{might_be}

pub has_room : (bears : Bool) (later earlier : Deeds) (loss : Loss)
    → AreRight bears (later ++ GivenUp Full loss ∷ earlier)
    → 3900000 < grown earlier
has_room bears later earlier loss right =
    ltb-true 3900000 (grown earlier)
    (might_be bears later earlier _ right)

pub holds_each : (bears : Bool) (later earlier : Deeds) (loss : Loss) (event : LogEntry) (log : Log)
    → AreRight bears (later ++ GivenUp Unwritable loss ∷ earlier) → arrived earlier ≡ event ∷ log
    → IsWritable event → ⊥
holds_each bears later earlier loss event log right is fits =
    let none : AllByRecursion IsWritable (latest (arrived earlier)) → ⊥ =
    might_be bears later earlier _ right in
    none (subst (λ (l : Log). AllByRecursion IsWritable (latest l)) (sym is) (fits, tt))
