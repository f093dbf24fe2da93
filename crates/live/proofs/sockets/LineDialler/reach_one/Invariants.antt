use Rattle.std.proofs.Common.{◌≡◌}
use Rattle.live.specs.Reaching.{WaitsInVain}
use Rattle.live.proofs.sockets.LineDialler.reach_one.Given as goal

abbrev pub invariant-loop : goal.invariant-loop
invariant-loop g l = (l.self.place.now ≡ l.fn.self.place.now)
    × WaitsInVain (g.W.SystemReach.steps l.fn.self.reach) l.counter l.last
    (g.W.SystemReach.steps l.self.reach)
