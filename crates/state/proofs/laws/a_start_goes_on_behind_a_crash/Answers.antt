use Rattle.state.proofs.Returning.{goes_on_over}
use Rattle.state.proofs.laws.a_start_goes_on_behind_a_crash.Goals as goal

pub returns : goal.returns
returns g c = λ settings deeds file other kept beside.
    goes_on_over g.D.Disk settings deeds file other kept beside
