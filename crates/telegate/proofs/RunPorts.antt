-- The port of a live run at its end.
use Rattle.std.proofs.Common.{Bool}
use Rattle.gateway.specs.Config.{Settings}
use Rattle.live.specs.Ends.{LiveEnds}
use Rattle.live.specs.Runs.{ShowsRun}
use Rattle.live.specs.declared.allow_list.AllowList.{AllowList}
use Rattle.live.specs.declared.watched.EndsSight.{EndsSight}
use Rattle.telegate.specs.Living.{IsPortOf, IsPortOfRun}

pub port_of_run : (settings : Settings) (allow_list : AllowList) (goes_on : Bool)
    (port : LiveEnds) (sight : EndsSight) → IsPortOf settings allow_list goes_on port
    → ShowsRun port sight → IsPortOfRun settings allow_list goes_on port
port_of_run settings allow_list goes_on port sight fixed shows =
    record { fixed = fixed; run = shows.run; begins = shows.begins; passed = shows.passed }
