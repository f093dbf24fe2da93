use Rattle.std.proofs.Common.{rules, ◌++◌, ◌+◌, ◌<◌, ◌∙◌, List, ap, arith, length, map, take, drop}
use Rattle.command.proofs.SavedBack.{at_place, next_read}
use Rattle.command.proofs.ReadExactly.{one_more_read}
use Rattle.command.proofs.restoring.read_items.Goals as goal

pub returns-in_err-read_item-clause-law : goal.returns-in_err-read_item-clause-law
returns-in_err-read_item-clause-law g c = λ xs rest len all e.
    let inv = c.loop-i.invariant.law xs rest len all e in
    let lt : c.loop-i._i < length xs = omega (arith, len, c.loop-i-test.true) in
    let at = at_place g.T.Saved.is_savable xs c.loop-i._i lt all in
    let h = c.in_err-read_item.ensures.back at.0 (map g.T.Saved.numbers (drop (c.loop-i._i + 1) xs)
    ++ rest) at.1
    (inv.1 ∙ ap (λ (ys : List g.row.T.Denot). map g.T.Saved.numbers ys ++ rest) at.3) in
    search rules

pub loop-i-preserved : goal.loop-i-preserved
loop-i-preserved g c = record {
  law = λ xs rest len all e.
      let inv = c.loop-i.invariant.law xs rest len all e in
      let lt : c.loop-i._i < length xs = omega (arith, len, c.loop-i-test.true) in
      let at = at_place g.T.Saved.is_savable xs c.loop-i._i lt all in
      let h = c.in_ok-read_item.ensures.back at.0 (map g.T.Saved.numbers (drop (c.loop-i._i + 1) xs)
      ++ rest) at.1
      (inv.1 ∙ ap (λ (ys : List g.row.T.Denot). map g.T.Saved.numbers ys ++ rest) at.3) in (
        next_read _ _ (take c.loop-i._i xs) (take (c.loop-i._i + 1) xs) at.0
            c.in_ok-read_item.field-0
            c.push_reserved.ensures.items inv.0 h.0 at.2,
        h.1,
      );
  exact = one_more_read g.T.Saved.numbers _ _ _ _ _ _ c.loop-i.invariant.exact
      c.push_reserved.ensures.items c.in_ok-read_item.ensures.exact;
  count = omega (arith, c.loop-i.invariant.count, c.push_reserved.ensures.len);
  room = c.push_reserved.ensures.capacity ∙ c.loop-i.invariant.room;
}
