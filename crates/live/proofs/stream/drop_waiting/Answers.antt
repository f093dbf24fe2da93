use Rattle.std.proofs.Common.{sym, ◌∙◌}
use Rattle.live.proofs.Drops.{ok_of, drained}
use Rattle.live.proofs.stream.drop_waiting.Goals as goal

pub returns : goal.returns
returns g c =
    drained _ _ _ _ _ _ _ (ok_of c.set.result (sym c.is_err.ensures.value
    ∙ c.if-is_err.false))
    c.set.ensures c.drop_octets-count.ensures c.set-2.ensures
