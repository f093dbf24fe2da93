use Rattle.std.proofs.Common.{◌≡◌, ◌+◌, ◌*◌, ◌≤◌, true, List, length}
use Rattle.std.specs.Prelude.{All}
use Rattle.live.specs.Streams.{ReadAnswer, brings, brought, looked}
use Rattle.live.proofs.stream.drop_octets.Given as goal

abbrev pub invariant-loop : goal.invariant-loop
invariant-loop g l =
    (looks : List ReadAnswer)
    × (g.S.SystemStream.calls l.stream ≡ looked looks (g.S.SystemStream.calls l.fn.stream))
    × All (λ a. brings a ≡ true) looks × (length looks + 1 ≡ l.counter)
    × (l.count ≡ brought looks) × (l.count + 1024 ≤ 1024 * l.counter)
