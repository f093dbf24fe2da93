use Rattle.std.proofs.Common.{◌≡◌, ◌++◌, length, string_bytes}
use Rattle.state.specs.ChangedSettings as spec
use Rattle.state.proofs.description.changes.push_each.Given as goal

abbrev pub invariant-loop-left : goal.invariant-loop-left
invariant-loop-left l = record {
  text : string_bytes l.text ++ spec.station_lines l.now l.left
      ≡ string_bytes l.initial.text ++ spec.station_lines l.now l.kept;
}

abbrev pub decreases-loop-left : goal.decreases-loop-left
decreases-loop-left l = length l.left
