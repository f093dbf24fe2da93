use Rattle.segments.proofs.SegmentLemmas.{zeroed_more}
use Rattle.segments.proofs.gate.write_zeros.Goals as goal

pub loop-i-preserved : goal.loop-i-preserved
loop-i-preserved g c =
    zeroed_more _ _ _ _ _ _ _ _ c.args.at c.loop-i.i c.loop-i.invariant c.requires.block
    c.requires.zeros
    c.in_ok-write_behind.ensures.written c.write_behind.ensures.usable c.write_behind.ensures.long
    c.write_behind.ensures.shut
