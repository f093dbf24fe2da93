use Rattle.live.proofs.Reaches.{absent_at, there_at}
use Rattle.live.proofs.sockets.LineDialler.connect_path.Goals as goal

pub returns-in_err-stream-clause-opens : goal.returns-in_err-stream-clause-opens
returns-in_err-stream-clause-opens g c =
    absent_at _ _ _ _ c.in_err-stream.field-0.0 _ c.begin_at.ensures c.in_err-stream.was
    c.from_residual.ensures.1

pub returns-clause-opens : goal.returns-clause-opens
returns-clause-opens g c =
    there_at _ _ _ _ _ c.in_ok-stream.stream _ c.begin_at.ensures c.in_ok-stream.was
    c.open.ensures
