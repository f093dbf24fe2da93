use Rattle.std.specs.Prelude.{codes, string_bytes}
use Rattle.std.specs.Net.Text.{ip_text}
use Rattle.status.specs.Looking.{Known, Unknown}
use Rattle.status.proofs.Peers.{is_written}
use Rattle.status.proofs.lookout.write_peer.Goals as goal

pub returns-in-Some : goal.returns-in-Some
returns-in-Some c =
    is_written c.write.result c.args.peer (string_bytes c.args.text.now)
    (string_bytes c.write.new.self) (ip_text c.in-Some.address)
    (Known c.in-Some.address c.in-Some.is) c.write.ensures.bytes

pub returns-in-None : goal.returns-in-None
returns-in-None c =
    is_written c.write-in-None.result c.args.peer (string_bytes c.args.text.now)
    (string_bytes c.write-in-None.new.self) (codes "unknown") (Unknown c.in-None.is)
    c.write-in-None.ensures.bytes
