use Rattle.std.proofs.Common.{length}
use Rattle.std.specs.Prelude.{string_bytes}
use Rattle.centre.specs.Desks.{Takes, scene}
use Rattle.centre.proofs.desk.Desk.receive.Given as goal

abbrev pub invariant-apdus : goal.invariant-apdus
invariant-apdus g l =
    Takes l.now l.octets (scene l.initial.self (string_bytes l.initial.text)) l.left
    (scene l.self (string_bytes l.text))

abbrev pub decreases-apdus : goal.decreases-apdus
decreases-apdus g l = length l.left
