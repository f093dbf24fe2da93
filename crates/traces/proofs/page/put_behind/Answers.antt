use Rattle.std.proofs.Common.{arith}
use Rattle.traces.specs.Actions.{octets_line}
use Rattle.traces.proofs.PrintLemmas.{put_behind}
use Rattle.traces.proofs.page.put_behind.Goals as goal

pub returns-clause-line : goal.returns-clause-line
returns-clause-line c =
    put_behind c.args.row.now c.put_line.new.row _ (octets_line c.args.moment.now c.args.letter
    c.args.octets.now)
    c.args.end c.put_line.result (omega (arith, c.requires)) c.put_line.ensures.line
    c.put_line.ensures.within
