use Rattle.std.proofs.Common.{◌≡◌}
use Rattle.live.specs.Ends.{QuietRounds}
use Rattle.live.proofs.port.Ends.look_on.Given as goal

abbrev pub invariant-loop : goal.invariant-loop
invariant-loop g l = record {
  quiet : QuietRounds l.fn.self l.first l.counter l.begun l.self;
  failed : l.self.failed ≡ l.fn.self.failed;
}
