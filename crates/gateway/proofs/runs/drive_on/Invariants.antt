use Rattle.std.proofs.Common.{◌≡◌}
use Rattle.gateway.specs.Reports.{Setup}
use Rattle.gateway.specs.Agrees.{Follows, Rests}
use Rattle.gateway.specs.Runs.{MoreEvents}
use Rattle.gateway.proofs.runs.drive_on.Given as goal

abbrev pub invariant-loop : goal.invariant-loop
invariant-loop g l = record {
  kept : (p : Setup) → Follows p l.fn.gateway (g.P.Port.log l.fn.port)
      → Rests p (g.P.Port.log l.fn.port)
      → Follows p l.gateway (g.P.Port.log l.port);
  rests : (p : Setup) → Follows p l.fn.gateway (g.P.Port.log l.fn.port)
      → Rests p (g.P.Port.log l.fn.port)
      → Rests p (g.P.Port.log l.port);
  events : MoreEvents l.counter (g.P.Port.log l.fn.port) (g.P.Port.log l.port);
  script : g.P.Port.script l.port ≡ g.P.Port.script l.fn.port;
  ready : g.P.Port.failed l.port ≡ g.P.Port.failed l.fn.port;
}
