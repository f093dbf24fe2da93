-- Runs from their beginning to their end.
use Rattle.std.proofs.Common.{◌≡◌, ◌∙◌, [], Option, Some, Result, ap}
use Rattle.gateway.specs.Log.{Log}
use Rattle.gateway.specs.State.{State}
use Rattle.live.specs.declared.watched.Failure.{Failure}
use Rattle.live.specs.declared.watched.Notice.{Notice}
use Rattle.status.specs.Looks.{Standing}
use Rattle.record.specs.Recording.{Recorded, Recording, behind, log_of, logged_first, recorded}
use Rattle.runlog.specs.Logging.{Book}
use Rattle.telegate.specs.Served.{WasServed}
use Rattle.telegate.specs.Turns.{HasServed, failure_in_life, log_in_life}
use Rattle.telegate.specs.Turns.{script_in_life, stands, tends_in_life}

-- a run at which nothing has passed when it begins
pub served_whole : {P F E : Type 0} (log : P → Option Log) (script : P → F)
    (tends : P → State → P → Option Notice → Type 0) (failure : P → Option Failure)
    (begins : State → P → Type 0) (before : Log) (pen : Recording) (port : P)
    (gateway : State) (book : Book) (shown : Option Standing) (end : State)
    (last : Recorded P) (logged : Book) (seen : Option Standing) (ended : Result (Unit {0}) E)
    → begins gateway port → pen.before ≡ before → log port ≡ Some []
    → logged_first (log_of pen) (Some []) ≡ Some []
    → HasServed (log_in_life log) (script_in_life script) (tends_in_life log tends)
    (failure_in_life failure) (stands gateway (recorded port pen) book shown)
    (stands end last logged seen) ended
    → WasServed log script tends failure begins before last logged seen ended
served_whole log script tends failure begins before pen port gateway book shown end last
    logged
    seen ended begun same empty new served =
    record {
      first = stands gateway (recorded port pen) book shown;
      begun = begun;
      behind = same;
      empty =
          ap (λ passed. behind pen.before (logged_first (log_of pen) passed)) empty
          ∙ (ap (behind pen.before) new ∙ ap Some same);
      gateway = end;
      served = served;
    }
