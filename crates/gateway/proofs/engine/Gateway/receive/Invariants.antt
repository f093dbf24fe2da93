use Rattle.std.proofs.Common.{◌≡◌, ◌≤◌, ◌-◌, length, drop, true}
use Rattle.session.specs.Session.{is_open}
use Rattle.gateway.specs.Reports.{Setup}
use Rattle.gateway.specs.Agrees.{Awaits}
use Rattle.gateway.specs.Runs.{events_logged}
use Rattle.gateway.proofs.engine.Gateway.receive.Given as goal

abbrev pub invariant-loop-done : goal.invariant-loop-done
invariant-loop-done g l = record {
  kept : (p : Setup) → Awaits p l.fn.self (g.P.Port.log l.fn.port) l.octets
      → Awaits p l.self (g.P.Port.log l.port) (drop l.done l.octets);
  on : is_open l.self.centre.session ≡ true;
  within : l.done ≤ length l.octets;
  events : events_logged (g.P.Port.log l.port) ≡ events_logged (g.P.Port.log l.fn.port);
  script : g.P.Port.script l.port ≡ g.P.Port.script l.fn.port;
  cause : g.P.Port.failed l.port ≡ g.P.Port.failed l.fn.port;
}

abbrev pub decreases-loop-done : goal.decreases-loop-done
decreases-loop-done g l = length l.octets - l.done
