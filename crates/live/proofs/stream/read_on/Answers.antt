use Rattle.std.proofs.Common.{arith, rules}
use Rattle.live.specs.Streams.{NoMore}
use Rattle.live.proofs.Lines.{reads_more, reads_out}
use Rattle.live.proofs.stream.read_on.Goals as goal

pub loop-init : goal.loop-init
loop-init g c = record { reads = NoMore; least = omega arith; bound = c.requires.fits }

pub returns-then-count-eq0-clause-reads : goal.returns-then-count-eq0-clause-reads
returns-then-count-eq0-clause-reads g c =
    reads_out _ _ _ _ _ _ _ _ _ _ _ c.loop.invariant.reads c.ends_frame.ensures
    c.if-ends_frame.false c.receive_once-count.ensures.receives c.if-count-eq0.true (search rules)

pub loop-preserved : goal.loop-preserved
loop-preserved g c = record {
  reads = reads_more _ _ _ _ _ _ _ _ _ _ _ c.loop.invariant.reads c.ends_frame.ensures
      c.if-ends_frame.false c.receive_once-count.ensures.receives c.if-count-eq0.false
      (search rules) c.receive_once-count.ensures.bound;
  least = omega (arith, c.loop.invariant.least);
  bound = search rules;
}
