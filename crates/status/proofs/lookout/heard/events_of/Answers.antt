use Rattle.std.proofs.Common.{List, ◌+◌, length, take, sym, subst, arith}
use Rattle.status.specs.Shown.{AreEvents}
use Rattle.status.specs.declared.snapshot.EventView.{EventView}
use Rattle.status.proofs.Heard.{not_twenty, one_more}
use Rattle.status.proofs.Rows.{counted_more}
use Rattle.status.proofs.lookout.heard.events_of.Goals as goal

pub loop-one-preserved : goal.loop-one-preserved
loop-one-preserved c = record {
  counted = counted_more c.loop-one.events.items c.push.new.self.items c.event_of.result
      c.loop-one.one-index c.push.ensures.items c.loop-one.invariant.counted;
  few = not_twenty (length c.loop-one.events.items) c.loop-one.one-index
      c.if-is_full.ensures.value c.if-is_full.ensures.fits c.loop-one.invariant.counted;
  same = subst
      (λ (l : List EventView).
      AreEvents (take (c.loop-one.one-index + 1) c.args.latest.now) l)
      (sym c.push.ensures.items)
      (one_more c.args.latest.now c.loop-one.events.items c.loop-one.one-index _
      c.event_of.result (omega arith) c.event_of.ensures c.loop-one.invariant.same);
}
