use Rattle.std.specs.Result.{is_ok}
use Rattle.std.proofs.Common.{not, true, arith, ap, ◌∙◌, ◌≡◌, ◌<◌, length}
use Rattle.link.specs.Saved.{no_command_numbers}
use Rattle.link.specs.Turns.{station_at}
use Rattle.link.proofs.Saved.{fits_at, lines_at, read_one_more, all_read}
use Rattle.link.proofs.ReadExactly.{one_more_stands, before_none, then_is}
use Rattle.link.proofs.saving.read_stations.Goals as goal

pub loop-i-init : goal.loop-i-init
loop-i-init g c = record {
  back = λ ss rest len all e. (c.new-stations.ensures.items, e);
  exact = before_none _ _ c.new-stations.ensures.items;
}

pub returns-in-Err-clause-back : goal.returns-in-Err-clause-back
returns-in-Err-clause-back g c = λ ss rest len all e.
    let inv = c.loop-i.invariant.back ss rest len all e in
    let lt : c.loop-i._i < length ss = omega (arith, len, c.loop-i-test.true) in
    c.in-Err.ensures.back (station_at ss c.loop-i._i) no_command_numbers _
    (fits_at ss c.loop-i._i all lt) (inv.1
    ∙ lines_at ss c.loop-i._i rest lt)

pub loop-i-preserved : goal.loop-i-preserved
loop-i-preserved g c =
    let ok : is_ok c.push.result ≡ true = c.is_err.ensures.negation ∙ ap not c.if-is_err.false in
    let pushed = rw ok at c.push.ensures.items in
    record {
      back = λ ss rest len all e.
          let inv = c.loop-i.invariant.back ss rest len all e in
          let lt : c.loop-i._i < length ss = omega (arith, len, c.loop-i-test.true) in
          let h = c.in-Ok.ensures.back (station_at ss c.loop-i._i) no_command_numbers _
          (fits_at ss c.loop-i._i all lt) (inv.1
          ∙ lines_at ss c.loop-i._i rest lt) in
          let one = read_one_more ss rest _ c.loop-i._i _ _ lt inv.0 h.0 h.1 in
          (then_is _ _ _ pushed one.0, one.1);
      exact = one_more_stands _ _ _ _ _ _ c.loop-i.invariant.exact pushed c.in-Ok.ensures.exact;
    }

pub returns-clause-back : goal.returns-clause-back
returns-clause-back g c = λ ss rest len all e.
    let inv = c.loop-i.invariant.back ss rest len all e in
    all_read ss rest _ _ c.loop-i._i (omega (arith, len, c.loop-i-test.false)) inv.0 inv.1
