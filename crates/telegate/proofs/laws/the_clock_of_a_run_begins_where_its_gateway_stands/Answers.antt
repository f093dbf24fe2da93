use Rattle.telegate.proofs.ClockLaw.{clocked_kept}
use Rattle.telegate.proofs.laws.the_clock_of_a_run_begins_where_its_gateway_stands.Goals as goal

pub returns-clause-kept : goal.returns-clause-kept
returns-clause-kept g c settings wishes places lineage before moments new left ended directory =
    clocked_kept _ settings wishes places lineage before moments new left ended directory
