use Rattle.std.proofs.Common.{◌≡◌, map, take}
use Rattle.centre.specs.Plans.{step_to}
use Rattle.centre.proofs.planning.to_each.Given as goal

abbrev pub invariant-loop-ca : goal.invariant-loop-ca
invariant-loop-ca l =
    l.steps.items ≡ map (step_to l.kind l.content l.until) (take l.ca-index l.addresses)
