use Rattle.std.proofs.Common.{rules, ◌≡◌, ◌++◌, ◌∷◌, [], refl, sym, ◌∙◌}
use Rattle.gateway.specs.Log.{Went}
use Rattle.gateway.specs.Ports.{output_of}
use Rattle.traces.specs.Actions.{line_of}
use Rattle.traces.specs.Printed.{IsPrintable}
use Rattle.record.proofs.Text.{more_written, on_success}
use Rattle.record.proofs.pen.Pen.hold_action.Goals as goal

pub invariant_of-self-else-is_err : goal.invariant_of-self-else-is_err
invariant_of-self-else-is_err g c =
    let went = Went c.args.now (output_of c.args.action.now) in
    let line = line_of c.args.now (output_of c.args.action.now) in
    let held : c.print_action.new.page ≡ c.self.inside.held ++ line = search rules in
    let printable : IsPrintable went =
    on_success _ _ (sym c.is_err.ensures.value ∙ c.if-is_err.false)
    c.print_action.ensures.printable in
    record {
      written =
          rw held (more_written c.printed_lines_read_back.ensures.log
          (g.W.RecordSheet.taken c.self.inside.sheet)
          c.self.inside.held line (record {
            news = went ∷ [];
            printable = (printable, tt);
            are =
                refl;
          })
          c.self.invariant.written);
      whole = c.self.invariant.whole;
      idle = c.self.invariant.idle;
    }
