use Rattle.std.proofs.Common.{rules}
use Rattle.live.proofs.Reaches.{broke_off, came_through, under_way}
use Rattle.live.proofs.sockets.LineDiallerDialler.ask.Goals as goal

pub returns-in-Through-clause-asks : goal.returns-in-Through-clause-asks
returns-in-Through-clause-asks g c =
    came_through _ _ c.in-Some.connecting _ _ _ _ _ _ (search rules) c.standing.ensures
    c.in-Through.is c.open.ensures c.dialled.ensures c.take.ensures.after

pub returns-in-UnderWay-clause-asks : goal.returns-in-UnderWay-clause-asks
returns-in-UnderWay-clause-asks g c =
    under_way _ _ c.in-Some.connecting _ _ _ _ _ (search rules) c.standing.ensures
    c.in-UnderWay.is c.go_on.ensures.goes_on

pub returns-in-Broken-clause-asks : goal.returns-in-Broken-clause-asks
returns-in-Broken-clause-asks g c =
    broke_off _ _ _ c.in-Some.connecting _ c.in-Broken.cause _ _ _ _ (search rules)
    c.standing.ensures
    c.in-Broken.is c.take.ensures.after c.connect_next.ensures.tries
