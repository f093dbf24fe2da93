use Rattle.std.proofs.Common.{[], Some, ap}
use Rattle.telegate.proofs.WholeRuns.{served_whole}
use Rattle.telegate.proofs.living.run_new.Goals as goal

pub returns-clause-served : goal.returns-clause-served
returns-clause-served g c =
    let served = c.live.ensures.served in
    served_whole _ _ _ _ _ [] c.args.scribes.pen c.port_between-port.result
    c.args.gateway _ _ served.0 _ _ _ _ c.requires.begins c.requires.first
    (ap Some c.port_between-port.ensures.log) c.requires.new served.1
