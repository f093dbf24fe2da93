use Rattle.std.proofs.Common.{◌≡◌, ◌<◌, ◌∙◌, ℕ, List, length, drop, take, subst, sym, arith}
use Rattle.statetext.specs.Sum.{remainder_after}
use Rattle.segments.proofs.HeldLemmas.{summed_piece}
use Rattle.segments.proofs.start.sum_behind.Goals as goal

pub loop-at-preserved : goal.loop-at-preserved
loop-at-preserved g c =
    let l = c.loop-at.invariant in
    let some : 0 < length c.in_ok-text.text.items =
    omega (arith, c.in_ok-text.ensures.octets, c.min-piece.ensures, c.loop-at-test.true) in
    record {
      within = omega (arith, c.min-piece.ensures, c.loop-at-test.true);
      usable = c.octets_at.ensures.usable;
      clean = λ clean. l.clean (c.octets_at.ensures.clean clean);
      seen = c.octets_at.ensures.seen ∙ l.seen;
      sum = λ clean. summed_piece c.loop-at.sum.remainder _ c.loop-at.at c.min-piece.result
          (g.D.Disk.seen c.octets_at.new.file) c.in_ok-text.text.items c.deref.result.now
          c.deref.ensures.value c.in_ok-text.ensures.octets (c.in_ok-text.ensures.text clean some)
          (subst (λ (file : List ℕ). c.loop-at.sum.remainder
          ≡ remainder_after 0xffffffff (take c.loop-at.at (drop 87 file)))
          (sym c.octets_at.ensures.seen) (l.sum (c.octets_at.ensures.clean clean)))
          c.add.ensures;
    }
