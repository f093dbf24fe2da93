use Rattle.traces.proofs.BlockLemmas.{block_before, last_block}
use Rattle.traces.proofs.blocks.Blocks.advance.Goals as goal

pub returns-in-Some-clause-block : goal.returns-in-Some-clause-block
returns-in-Some-clause-block g c =
    let found = rw c.in-Some.is at c.in_ok-place.ensures.found in
    rw (← c.self.view_is) (λ _. (
      c.if-self.false,
      block_before _ _ _ _ c.fill.new.buf.items c.fill.new.filled c.in-Some.place _ c.if-self.false
          c.shift-self-inside.ensures.moved c.fill.ensures.within found.0 found.1
          c.fill.ensures.kept,
    ))

pub returns-in-None-clause-block : goal.returns-in-None-clause-block
returns-in-None-clause-block g c =
    let found = rw c.in-None.is at c.in_ok-place.ensures.found in
    rw (← c.self.view_is) (λ _. (
      c.if-self.false,
      last_block _ _ _ _ _ c.shift-self-inside.ensures.moved c.fill.ensures.kept found,
    ))
