use Rattle.std.proofs.Common.{◌≡◌, ◌++◌, length, string_bytes}
use Rattle.state.specs.StateText as spec
use Rattle.state.proofs.description.text.push_given_up.Given as goal

abbrev pub invariant-loop-left : goal.invariant-loop-left
invariant-loop-left l = record {
  text : string_bytes l.text ++ spec.given_up_lines l.left
      ≡ string_bytes l.initial.text ++ spec.given_up_lines l.given_up;
}

abbrev pub decreases-loop-left : goal.decreases-loop-left
decreases-loop-left l = length l.left
