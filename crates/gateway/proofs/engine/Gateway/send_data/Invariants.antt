use Rattle.std.proofs.Common.{◌≡◌, ℕ, ◌+◌, List, length}
use Rattle.gateway.specs.Phases.{Phase, IsFlushing}
use Rattle.gateway.specs.Reports.{Setup}
use Rattle.session.specs.Session.{is_open}
use Rattle.session.specs.Ends.{IsConfirmed}
use Rattle.gateway.specs.Agrees.{Tracks, StaysInTime}
use Rattle.gateway.specs.Runs.{events_logged}
use Rattle.gateway.proofs.engine.Gateway.send_data.Given as goal

abbrev pub invariant-loop-count : goal.invariant-loop-count
invariant-loop-count g l = record {
  kept : (p : Setup) (unjudged : List ℕ) (phase : Phase) → IsFlushing phase
      → IsConfirmed l.fn.self.centre.session
      → Tracks p l.fn.self (g.P.Port.log l.fn.port) unjudged phase
      → Tracks p l.self (g.P.Port.log l.port) unjudged phase;
  confirmed : IsConfirmed l.fn.self.centre.session → IsConfirmed l.self.centre.session;
  in_time : StaysInTime l.fn.self l.self;
  on : is_open l.self.centre.session ≡ is_open l.fn.self.centre.session;
  events : events_logged (g.P.Port.log l.port) ≡ events_logged (g.P.Port.log l.fn.port);
  script : g.P.Port.script l.port ≡ g.P.Port.script l.fn.port;
  cause : g.P.Port.failed l.port ≡ g.P.Port.failed l.fn.port;
}

abbrev pub decreases-loop-count : goal.decreases-loop-count
decreases-loop-count g l = length l.self.serial.commands.answers + length l.self.centre.queue.unsent
