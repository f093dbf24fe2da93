use Rattle.std.proofs.Common.{◌≡◌, ◌++◌, drop, None, option_map, List, ℕ}
use Rattle.statetext.specs.Text.{numbers_behind}
use Rattle.statetext.proofs.lines.read_numbers.Given as goal

abbrev pub invariant-loop-octet : goal.invariant-loop-octet
invariant-loop-octet l =
    numbers_behind None l.text ≡ option_map (λ (ns : List ℕ). l.line.items ++ ns)
    (numbers_behind l.number (drop l.octet-index l.text))
