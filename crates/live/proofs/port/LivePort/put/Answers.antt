use Rattle.gateway.specs.Ports.{output_of}
use Rattle.live.proofs.Runs.{put_on}
use Rattle.live.proofs.port.LivePort.put.Goals as goal

pub invariant_of-self : goal.invariant_of-self
invariant_of-self g c =
    put_on c.self.inside.ends c.put_on.new.self c.args.now (output_of c.args.action.now)
    c.put_on.ensures.puts c.self.invariant
