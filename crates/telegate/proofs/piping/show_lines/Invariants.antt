use Rattle.std.specs.Option.{option_copied}
use Rattle.std.specs.Prelude.{string_bytes}
use Rattle.traces.specs.Fields.{parts_after}
use Rattle.traces.specs.Trace.{lines_of}
use Rattle.telegate.proofs.PipeLemmas.{LinesTo}
use Rattle.telegate.proofs.piping.show_lines.Given as goal

abbrev pub invariant-showing : goal.invariant-showing
invariant-showing g l = LinesTo l.piped l.words (lines_of l.fn.text)
    (parts_after 10 (option_copied l.left))
    (string_bytes l.lines) l.condition
