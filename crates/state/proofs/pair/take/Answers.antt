use Rattle.std.proofs.Common.{rules, ◌∙◌, ◌≤◌, length, sym}
use Rattle.std.specs.List.{AllByRecursion}
use Rattle.gateway.specs.Ports.{logged_by}
use Rattle.traces.specs.Printed.{IsPrintable}
use Rattle.state.specs.Lines.{FitsLine}
use Rattle.state.proofs.LineLemmas.{short_appended, where_ok}
use Rattle.state.proofs.Surviving.{writable}
use Rattle.state.proofs.pair.take.Goals as goal

pub returns-clause-writable : goal.returns-clause-writable
returns-clause-writable g c =
    let line : FitsLine c.args.next = search rules in
    let long : 1024 ≤ length c.args.buf.now = search rules in
    let all : AllByRecursion IsPrintable (logged_by c.args.next c.args.buf.now) = search rules in
    where_ok c.append.result (writable c.args.next c.args.buf.now c.requires line long all)

pub append-requires : goal.append-requires
append-requires g c =
    let line : FitsLine c.args.next = search rules in
    let long : 1024 ≤ length c.args.buf.now = search rules in
    record {
      short = short_appended c.put_line.result c.args.next c.args.buf.now _ _ _
          (sym c.is_err.ensures.value ∙ c.if-is_err.false) c.put_line.ensures.line
          c.put_line.ensures.printable c.clear.ensures c.octets.ensures
          c.requires line long;
    }
