use Rattle.std.proofs.Common.{◌≡◌}
use Rattle.live.specs.Reaching.{Tries}
use Rattle.live.proofs.sockets.LineDialler.connect_next.Given as goal

abbrev pub invariant-loop : goal.invariant-loop
invariant-loop g l = (l.self.place.now ≡ l.fn.self.place.now)
    × (l.self.connecting ≡ l.fn.self.connecting)
    × Tries l.fn.first (g.W.SystemReach.steps l.fn.self.reach) l.counter l.cause
    (g.W.SystemReach.steps l.self.reach)
