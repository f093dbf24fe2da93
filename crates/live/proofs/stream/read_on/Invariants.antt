use Rattle.std.proofs.Common.{◌≤◌, take}
use Rattle.live.specs.Streams.{ReadsOn}
use Rattle.live.proofs.stream.read_on.Given as goal

abbrev pub invariant-loop : goal.invariant-loop
invariant-loop g l = record {
  reads : ReadsOn (g.S.SystemStream.calls l.fn.stream) (take l.first l.fn.buf) l.counter
      (take l.len l.buf) (g.S.SystemStream.calls l.stream);
  least : l.first ≤ l.len;
  bound : l.len ≤ 1024;
}
