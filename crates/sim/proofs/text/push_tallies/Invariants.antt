use Rattle.std.proofs.Common.{◌≡◌, ◌++◌, drop}
use Rattle.std.specs.Prelude.{string_bytes}
use Rattle.sim.specs.Texts.{session_lines}
use Rattle.sim.proofs.text.push_tallies.Given as goal

abbrev pub invariant-loop-index : goal.invariant-loop-index
invariant-loop-index l = string_bytes l.lines ++ session_lines l.index (drop l.index l.tallies)
    ≡ string_bytes l.initial.lines ++ session_lines 0 l.tallies
