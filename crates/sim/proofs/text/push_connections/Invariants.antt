use Rattle.std.proofs.Common.{◌≡◌, ◌++◌, ◌+◌, drop}
use Rattle.std.specs.Prelude.{string_bytes}
use Rattle.sim.specs.Texts.{connection_lines}
use Rattle.sim.proofs.text.push_connections.Given as goal

abbrev pub invariant-loop-index : goal.invariant-loop-index
invariant-loop-index l = string_bytes l.lines ++ connection_lines (l.index + 1)
    (drop l.index l.counts)
    ≡ string_bytes l.initial.lines ++ connection_lines 1 l.counts
