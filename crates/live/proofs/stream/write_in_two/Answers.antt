use Rattle.std.proofs.Common.{sym, ◌∙◌}
use Rattle.live.proofs.Writes.{done_so, not_done, written_refused, written_slice}
use Rattle.live.proofs.stream.write_in_two.Goals as goal

pub returns : goal.returns
returns g c = written_slice _ _ _ _ _ _ _ _ _ _ c.write_some-taken.ensures.writes
    c.write_some-taken.ensures.bound c.if-taken-octets.false
    (done_so c.set.result (sym c.is_err.ensures.value ∙ c.if-is_err.false))
    c.set.ensures c.write_once-is_taken.ensures c.set-2.ensures

pub returns-then-is_err : goal.returns-then-is_err
returns-then-is_err g c = written_refused _ _ _ _ _ _ c.write_some-taken.ensures.writes
    c.write_some-taken.ensures.bound c.if-taken-octets.false
    (not_done c.set.result (sym c.is_err.ensures.value ∙ c.if-is_err.true))
    c.set.ensures
