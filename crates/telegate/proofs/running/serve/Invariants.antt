use Rattle.std.proofs.Common.{◌≡◌, ◌<◌, is_some}
use Rattle.gateway.specs.Agrees.{Follows, Rests}
use Rattle.gateway.specs.Reports.{Setup}
use Rattle.gateway.specs.Runs.{MoreEvents}
use Rattle.runlog.specs.Logging.{logged_fixture}
use Rattle.telegate.specs.Running.{IsRunFaithful}
use Rattle.telegate.specs.Turns.{HasGoneOn, shown_to, stands}
use Rattle.telegate.proofs.running.serve.Given as goal

abbrev pub invariant-turning : goal.invariant-turning
invariant-turning g l = record {
  healthy : g.P.Port.failed l.run_log.port ≡ g.P.Port.failed l.initial.run_log.port;
  fixed : logged_fixture (g.P.Watched.lasting l.run_log.port) l.run_log.logger
      ≡ logged_fixture (g.P.Watched.lasting l.initial.run_log.port) l.initial.run_log.logger;
  looked : is_some l.lookout ≡ is_some l.initial.lookout;
  more : MoreEvents l.counter (g.P.Port.log l.initial.run_log.port) (g.P.Port.log l.run_log.port);
  faithful : (p : Setup) → Follows p l.initial.gateway (g.P.Port.log l.initial.run_log.port)
      → Rests p (g.P.Port.log l.initial.run_log.port)
      → Follows p l.gateway (g.P.Port.log l.run_log.port) × Rests p (g.P.Port.log l.run_log.port);
  shown : (p : Setup) → Follows p l.initial.gateway (g.P.Port.log l.initial.run_log.port)
      → Rests p (g.P.Port.log l.initial.run_log.port) → 0 < l.counter
      → IsRunFaithful p (g.P.Port.log l.run_log.port);
  on : HasGoneOn g.P.Port.log g.P.Port.script g.P.Watched.tends
      (stands l.initial.gateway l.initial.run_log.port l.initial.run_log.logger
      (shown_to l.initial.lookout))
      l.counter (stands l.gateway l.run_log.port l.run_log.logger (shown_to l.lookout));
}
