use Rattle.live.proofs.Reaches.{refused_at, untimed_at}
use Rattle.live.proofs.sockets.LineDialler.connect_at.Goals as goal

pub returns-in_err-stream-clause-connects : goal.returns-in_err-stream-clause-connects
returns-in_err-stream-clause-connects g c =
    refused_at _ _ _ _ c.in_err-stream.field-0.0 _ c.begin.ensures c.in_err-stream.was
    c.from_residual.ensures.1

pub returns-in_err-since-clause-connects : goal.returns-in_err-since-clause-connects
returns-in_err-since-clause-connects g c =
    untimed_at _ _ _ _ _ c.in_ok-stream.stream _ c.in_err-since.field-0.0 _ c.begin.ensures
    c.in_ok-stream.was c.now.ensures c.in_err-since.was c.from_residual-in_err-since.ensures.1
