use Rattle.std.proofs.Common.{refl, sym, ap, ◌∙◌}
use Rattle.live.specs.Ends.{LiveEnds, NoRound}
use Rattle.live.specs.Timing.{is_awaited}
use Rattle.live.proofs.Turns.{none_failed, quiet_more}
use Rattle.live.proofs.port.Ends.look_on.Goals as goal

pub loop-init : goal.loop-init
loop-init g c = record { quiet = NoRound; failed = refl }

pub loop-preserved : goal.loop-preserved
loop-preserved g c = record {
  quiet = quiet_more _ _ _ _ _ _ _ _ _ _ _ _ c.loop.invariant.quiet c.turn-found.ensures.turn
      (sym c.is_some.ensures ∙ c.if-is_some.false) (c.is_awaited-was_awaited.ensures
      ∙ ap (λ (e : LiveEnds). is_awaited e.timing) c.self.view_is) c.read_clock-now.ensures
      c.is_tick_due.ensures c.if-is_tick_due.false;
  failed = ap (λ (e : LiveEnds). e.failed) c.read_clock-now.ensures
      ∙ (none_failed c.turn-found.result _ _ (sym c.is_some.ensures ∙ c.if-is_some.false)
      c.turn-found.ensures.failed
      ∙ c.loop.invariant.failed);
}
