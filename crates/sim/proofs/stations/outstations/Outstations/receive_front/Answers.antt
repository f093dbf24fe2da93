use Rattle.std.proofs.Common.{◌≤◌, arith}
use Rattle.sim.proofs.RequestsReceived.{begun_kept, front_received, none_kept}
use Rattle.sim.proofs.stations.outstations.Outstations.receive_front.Goals as goal

pub returns-then-reply : goal.returns-then-reply
returns-then-reply g c =
    let some : 1 ≤ c.feed-taken.result.0 =
    omega (arith, c.feed-taken.ensures.progress, c.requires) in (
      front_received _ _ _ c.self.view_is _ _ _ _ _ _ c.if-reply.true _ _ c.in-Frame.is _ _
          c.self.invariant.listening _ c.self.invariant.line c.feed-taken.ensures.listening
          c.reply.ensures,
      c.feed-taken.ensures.within,
      some,
    )

pub returns-else-reply : goal.returns-else-reply
returns-else-reply g c = (
  c.feed-taken.result.0,
  front_received _ _ _ c.self.view_is _ _ _ _ _ _ c.if-reply.false _ _ c.in-Frame.is _ _
      c.self.invariant.listening _ c.self.invariant.line c.feed-taken.ensures.listening
      c.reply.ensures,
)

pub returns-in-More : goal.returns-in-More
returns-in-More g c =
    begun_kept _ _ c.self.view_is _ _ _ _ c.in-More.is _ _ c.self.invariant.listening _
    c.self.invariant.line c.feed-taken.ensures.listening

pub returns-in-Never : goal.returns-in-Never
returns-in-Never g c =
    none_kept _ _ c.self.view_is _ _ _ _ c.in-Never.is _ _ _ c.self.invariant.listening
    c.clear.ensures.so_far _ c.self.invariant.line c.feed-taken.ensures.listening
