use Rattle.std.proofs.Common.{rules, ◌≡◌, ◌++◌, refl, sym, ◌∙◌}
use Rattle.std.specs.List.{AllByRecursion}
use Rattle.gateway.specs.Ports.{logged_by}
use Rattle.traces.specs.Printed.{IsPrintable, lines_of_log}
use Rattle.record.proofs.Text.{more_written, on_success}
use Rattle.record.proofs.pen.Pen.hold_event.Goals as goal

pub invariant_of-self-else-is_err : goal.invariant_of-self-else-is_err
invariant_of-self-else-is_err g c =
    let news = logged_by c.args.next c.args.buf.now in
    let held : c.print_event.new.page ≡ c.self.inside.held ++ lines_of_log news = search rules in
    let printable : AllByRecursion IsPrintable news =
    on_success _ _ (sym c.is_err.ensures.value ∙ c.if-is_err.false)
    c.print_event.ensures.printable in
    record {
      written =
          rw held (more_written c.printed_lines_read_back.ensures.log
          (g.W.RecordSheet.taken c.self.inside.sheet)
          c.self.inside.held (lines_of_log news) (record {
            news = news;
            printable = printable;
            are = refl;
          })
          c.self.invariant.written);
      whole = c.self.invariant.whole;
      idle = c.self.invariant.idle;
    }
