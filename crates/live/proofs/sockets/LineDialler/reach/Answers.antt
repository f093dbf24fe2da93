use Rattle.std.proofs.Common.{rules}
use Rattle.live.proofs.Connects.{is_there, known, not_there, unknown}
use Rattle.live.proofs.sockets.LineDialler.reach.Goals as goal

pub returns-in_err-stream-clause-path : goal.returns-in_err-stream-clause-path
returns-in_err-stream-clause-path g c path is =
    not_there path c.in-Some.path.now _ _ _ c.in_err-stream.field-0.0 _ (search rules)
    c.connect_at.ensures c.in_err-stream.was c.from_residual.ensures.1

pub returns-in-Some-clause-path : goal.returns-in-Some-clause-path
returns-in-Some-clause-path g c path is =
    is_there path c.in-Some.path.now _ _ _ _ c.in_ok-stream.stream _ (search rules)
    c.connect_at.ensures c.in_ok-stream.was c.open.ensures

pub returns-in_err-look_up-clause-host : goal.returns-in_err-look_up-clause-host
returns-in_err-look_up-clause-host g c host is =
    unknown host c.in-Some-strip_prefix.host.now _ _ _ c.in_err-look_up.field-0.0 _
    (search rules) c.look_up.ensures c.in_err-look_up.was
    c.from_residual-in_err-look_up.ensures.1

pub returns-clause-host : goal.returns-clause-host
returns-clause-host g c host is =
    known host c.in-Some-strip_prefix.host.now _ _ _ _ c.in_ok-look_up.field-0 _ (search rules)
    c.look_up.ensures c.in_ok-look_up.was c.reach_one.ensures.reaches
