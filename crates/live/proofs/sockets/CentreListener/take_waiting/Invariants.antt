use Rattle.std.proofs.Common.{◌≡◌}
use Rattle.live.specs.Telling.{Tells}
use Rattle.live.proofs.Sorted.{TakesSo}
use Rattle.live.proofs.sockets.CentreListener.take_waiting.Given as goal

abbrev pub invariant-loop : goal.invariant-loop
invariant-loop g l =
    TakesSo l.allow_list (g.T.SystemListener.arrivals l.fn.self.listener) l.fn.self.refused
    l.newest l.counter (g.T.SystemListener.arrivals l.self.listener) l.self.refused
    × Tells (g.T.SystemListener.arrivals l.fn.self.listener)
    (record { told = g.T.SystemListener.told l.fn.self.listener; is_shut = l.fn.self.is_shut })
    (g.T.SystemListener.arrivals l.self.listener)
    (record { told = g.T.SystemListener.told l.self.listener; is_shut = l.self.is_shut })
    × (g.T.SystemListener.opened l.self.listener ≡ g.T.SystemListener.opened l.fn.self.listener)
