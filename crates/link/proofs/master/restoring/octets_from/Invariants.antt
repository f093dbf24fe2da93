use Rattle.std.proofs.Common.{◌≡◌, take, nat_lt, true}
use Rattle.std.specs.List.{list_all}
use Rattle.link.proofs.master.restoring.octets_from.Given as goal

abbrev pub invariant-loop-number : goal.invariant-loop-number
invariant-loop-number l =
    (l.octets.items ≡ take l.number-index l.numbers)
    × (list_all (λ n. nat_lt n 256) (take l.number-index l.numbers) ≡ true)
