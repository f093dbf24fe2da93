-- The first lines were taken, and these are left.
use Rattle.std.specs.Option.{option_copied}
use Rattle.traces.specs.Fields.{parts_after}
use Rattle.record.specs.Opening.{Takes}
use Rattle.record.proofs.audit.opening.FirstLines.take.Given as goal

abbrev pub invariant-taking : goal.invariant-taking
invariant-taking l = Takes l.fn.self (parts_after 10 (option_copied l.fn.part))
    (record l.self { count = l.number }) (parts_after 10 (option_copied l.left))
