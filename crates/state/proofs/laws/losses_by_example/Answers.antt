use Rattle.std.proofs.Common.{ap, Bool, Some, if◌then◌else◌}
use Rattle.std.proofs.lemmas.Bool.{lt-ltb}
use Rattle.live.specs.declared.watched.Failure.TheVariants as failures
use Rattle.state.proofs.laws.losses_by_example.Goals as goal

pub returns-clause-stopped : goal.returns-clause-stopped
returns-clause-stopped c stops of_port some =
    ap (λ (b : Bool). if b then Some failures.State else of_port) (lt-ltb 0 stops some)
