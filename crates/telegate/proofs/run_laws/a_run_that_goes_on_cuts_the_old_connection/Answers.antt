use Rattle.std.proofs.Common.{is_some}
use Rattle.telegate.proofs.KeptLemmas.{moment_in}
use Rattle.telegate.proofs.RunLaw.{cut_of, kept_of, moment_there, wall_first}
use Rattle.telegate.proofs.run_laws.a_run_that_goes_on_cuts_the_old_connection.Goals as goal

pub returns-clause-wall : goal.returns-clause-wall
returns-clause-wall g c settings wishes old new left ended =
    wall_first _ settings wishes old new left ended

pub returns-clause-cut : goal.returns-clause-cut
returns-clause-cut g c settings wishes old new left ended directory h named =
    let k = kept_of _ settings wishes old new left ended directory h named in
    let o = k.lived.origin in (
      o,
      k.lived.begun,
      k.lived.on.behind,
      λ on. cut_of settings wishes (is_some o.moment) left.port k.lived.on.port_is
          (moment_there o (moment_in _ wishes settings old.lineage o k.lived.begun) on),
    )
