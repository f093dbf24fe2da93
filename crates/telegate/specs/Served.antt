-- A live run between two of its events, from its beginning to its end (profile).
use Rattle.std.specs.Prelude.{◌≡◌, [], Option, Some, None, Result}
use Rattle.gateway.specs.Agrees.{Follows}
use Rattle.gateway.specs.Config.{Settings}
use Rattle.gateway.specs.Log.{Log}
use Rattle.gateway.specs.Setups.{setup_of}
use Rattle.gateway.specs.State.{State}
use Rattle.live.specs.Ends.{Fixture, LiveEnds, failure_of, fixed_of}
use Rattle.live.specs.declared.watched.Failure.{Failure}
use Rattle.live.specs.declared.watched.Notice.{Notice}
use Rattle.status.specs.Looks.{Standing}
use Rattle.record.specs.Recording.{Recorded}
use Rattle.runlog.specs.Logging.{Book}
use Rattle.state.specs.Both.{Both}
use Rattle.state.specs.Keeping as keeping
use Rattle.state.specs.Keeping.{HasTended, Keeping, UnlookedFixture, unlooked_fixture}
use Rattle.state.specs.Standings.{Renews}
use Rattle.state.specs.declared.beginning.Origin.{Origin}
use Rattle.telegate.specs.Turns.{HasServed, RunStanding, failure_in_life, log_in_life}
use Rattle.telegate.specs.Turns.{script_in_life, stands, tends_in_life}

-- A run is over, of which this port, this log and what visitors are shown are left. It began so,
-- with what passed before it and nothing else. Behind each of its events all looked at its gateway
-- before the next one came.
pub record WasServed {P F E : Type 0} (log : P → Option Log) (script : P → F)
    (tends : P → State → P → Option Notice → Type 0) (failure : P → Option Failure)
    (begins : State → P → Type 0) (before : Log) (last : Recorded P) (book : Book)
    (shown : Option Standing) (ended : Result (Unit {0}) E) : Type 0 where
  pub first : RunStanding (Recorded P)
  pub begun : begins first.gateway first.port.port
  pub behind : first.port.pen.before ≡ before
  pub empty : log_in_life log first.port ≡ Some before
  pub gateway : State
  pub served : HasServed (log_in_life log) (script_in_life script) (tends_in_life log tends)
      (failure_in_life failure) first (stands gateway last book shown) ended

-- without a state a look leaves a port as it is, and there is nothing to report
abbrev pub IsLeft : LiveEnds → State → LiveEnds → Option Notice → Type 0
IsLeft old state new notice = (new ≡ old) × (notice ≡ None)

-- a run that began anew, without a state
abbrev pub HasServedAnew : {E : Type 0} → Settings → Recorded LiveEnds → Book
    → Option Standing → Result (Unit {0}) E → Type 0
HasServedAnew c last book shown ended =
    WasServed (λ ends. Some ends.log) (λ ends. fixed_of ends) IsLeft
    (λ ends. failure_of ends.failed)
    (λ s ends. Follows (setup_of c) s (Some [])) [] last book shown ended

-- the port of a run whose state is kept: its log, what of it is fixed, and what it does at a look
abbrev pub log_of_kept : {S : Type 0} → Keeping (Both LiveEnds S) → Option Log
log_of_kept k = Some k.ends.port.log

abbrev pub script_of_kept : {S : Type 0} → Keeping (Both LiveEnds S) → UnlookedFixture Fixture
script_of_kept k = unlooked_fixture (fixed_of k.ends.port) k.bears_loss k.ends.deeds

abbrev pub tends_of_kept : {S : Type 0} → Keeping (Both LiveEnds S) → State
    → Keeping (Both LiveEnds S) → Option Notice → Type 0
tends_of_kept old state new notice =
    HasTended (λ ends. Some ends.port.log) (λ ends. ends.deeds) old state new notice

-- it began with this gateway, whose state it tried to put on the disk first
abbrev pub BeganWith : {S : Type 0} → Origin → State → Keeping (Both LiveEnds S) → Type 0
BeganWith origin s k = (s ≡ origin.gateway) × Renews [] s k.ends.deeds

-- A run whose state is kept. It began with this gateway.
abbrev pub HasServedOn : {S E : Type 0} → Origin → Recorded (Keeping (Both LiveEnds S)) → Book
    → Option Standing → Result (Unit {0}) E → Type 0
HasServedOn origin last book shown ended =
    WasServed log_of_kept script_of_kept tends_of_kept
    (λ k. keeping.failure_of k.stops (failure_of k.ends.port.failed)) (BeganWith origin)
    origin.before.entries last book shown ended
