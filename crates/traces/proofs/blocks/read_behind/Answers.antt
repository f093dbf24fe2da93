use Rattle.std.proofs.Common.{arith}
use Rattle.std.proofs.lemmas.Result.{err_from_is_err_and}
use Rattle.traces.proofs.BlockLemmas.{read_more, read_none}
use Rattle.traces.proofs.blocks.read_behind.Goals as goal

pub returns-in_err-count-clause-kept : goal.returns-in_err-count-clause-kept
returns-in_err-count-clause-kept g c =
    let p = err_from_is_err_and c.from_residual.result c.from_residual.ensures.1 in
    rw p.1 (read_none _ _ c.args.row.now c.read_some.new.room c.args.filled _
    (omega (arith, c.requires))
    c.in_err-count.ensures.bytes)

pub returns-clause-read : goal.returns-clause-read
returns-clause-read g c =
    read_more _ _ c.args.row.now c.read_some.new.room c.args.filled _ c.in_ok-count.count
    (omega (arith, c.requires))
    c.in_ok-count.ensures.bound.0 c.in_ok-count.ensures.bytes.0
