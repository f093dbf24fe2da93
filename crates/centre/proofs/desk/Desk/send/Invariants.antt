use Rattle.std.specs.Prelude.{string_bytes}
use Rattle.centre.specs.Desks.{Sends, scene}
use Rattle.centre.proofs.desk.Desk.send.Given as goal

abbrev pub invariant-apdus : goal.invariant-apdus
invariant-apdus g l =
    Sends l.now (scene l.initial.self (string_bytes l.initial.text)) l.counter
    (scene l.self (string_bytes l.text))
