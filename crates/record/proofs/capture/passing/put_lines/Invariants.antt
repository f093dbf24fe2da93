-- The first lines were put, and these are left.
use Rattle.std.proofs.Common.{map}
use Rattle.std.specs.Option.{option_copied}
use Rattle.traces.specs.Fields.{parts_after}
use Rattle.record.specs.Texts.{kept_line}
use Rattle.record.proofs.WholeLemmas.{PutTo}
use Rattle.record.proofs.capture.passing.put_lines.Given as goal

abbrev pub invariant-passing : goal.invariant-passing
invariant-passing l = PutTo (map kept_line (parts_after 10 (option_copied l.fn.lines)))
    (map kept_line (parts_after 10 (option_copied l.left))) l.fn.first l.number
    l.fn.capture l.fn.page l.page l.capture
