use Rattle.std.proofs.Common.{arith}
use Rattle.traces.specs.Printed.{event_line}
use Rattle.traces.proofs.PrintLemmas.{put_behind}
use Rattle.traces.proofs.page.put_event_behind.Goals as goal

pub returns-clause-line : goal.returns-clause-line
returns-clause-line c =
    put_behind c.args.row.now c.put_event.new.row _ (event_line c.args.moment.now c.args.letter
    c.args.octets.now)
    c.args.end c.put_event.result (omega (arith, c.requires)) c.put_event.ensures.line
    c.put_event.ensures.within
