use Rattle.std.proofs.Common.{rules}
use Rattle.live.proofs.Reaches.{dialled_at, dialled_host}
use Rattle.live.proofs.sockets.LineDiallerDialler.dial.Goals as goal

pub returns-in-Some-clause-path : goal.returns-in-Some-clause-path
returns-in-Some-clause-path g c path is = (
  dialled_at path c.in-Some.path.now _ _ _ _ (search rules) c.connect_path.ensures.opens
      c.dialled.ensures,
  c.connect_path.ensures.connecting,
)

pub returns-clause-host : goal.returns-clause-host
returns-clause-host g c host is =
    dialled_host host c.in-Some-strip_prefix.host.now _ _ _ _ _ _ _ _ (search rules)
    c.look_up.ensures c.unfound-cause.ensures c.connect_next.ensures.tries
