use Rattle.std.proofs.Common.{rules}
use Rattle.live.proofs.Octets.{octets_at}
use Rattle.live.proofs.port.Ends.look_at_connection.Goals as goal

pub returns-in-Octets-clause-looks : goal.returns-in-Octets-clause-looks
returns-in-Octets-clause-looks g c = octets_at _ _ c.in-Some.connection.now.address
    (g.L.Stream.OctetStream.history c.in-Some.connection.now.stream)
    (g.L.Stream.OctetStream.history c.read.new.self) _ _ c.self.view_is (search rules)
    (search rules)
