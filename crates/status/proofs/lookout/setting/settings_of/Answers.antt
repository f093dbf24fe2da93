use Rattle.std.proofs.Common.{length, map, ap, ◌∙◌, arith}
use Rattle.status.specs.Shown.{viewed_as}
use Rattle.status.proofs.Rows.{counted_more, not_sixteen}
use Rattle.status.proofs.Settings.{one_more, shown}
use Rattle.status.proofs.lookout.setting.settings_of.Goals as goal

pub loop-one-preserved : goal.loop-one-preserved
loop-one-preserved c = record {
  counted = counted_more c.loop-one.settings.items c.push.new.self.items _ c.loop-one.one-index
      c.push.ensures.items c.loop-one.invariant.counted;
  few = not_sixteen (length c.loop-one.settings.items) c.loop-one.one-index
      c.if-is_full.ensures.value c.if-is_full.ensures.fits c.loop-one.invariant.counted;
  same = ap (map viewed_as) c.push.ensures.items
      ∙ one_more c.loop-one.settings.items c.args.chosen.now c.loop-one.one-index
      c.one-item.result _ (omega arith) c.one-item.is
      (shown c.one-item.result.key.now _ _ c.as_str.ensures.value)
      c.loop-one.invariant.same;
}
