use Rattle.sim.proofs.ScriptLemmas.{ReadSoFar}
use Rattle.sim.proofs.reading.read_lines.Given as goal

abbrev pub invariant-loop-i : goal.invariant-loop-i
invariant-loop-i l = ReadSoFar l.size l.stations l.lines l.i l.directives
