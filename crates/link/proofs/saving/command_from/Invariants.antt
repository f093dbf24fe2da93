use Rattle.std.proofs.Common.{◌≡◌, ◌≤◌, take, length, nat_lt, true}
use Rattle.std.specs.List.{list_all}
use Rattle.link.proofs.saving.command_from.Given as goal

-- The octets so far are the numbers so far, each below 256.
abbrev pub invariant-loop-number : goal.invariant-loop-number
invariant-loop-number l =
    (l.octets.items ≡ take l.number-index l.numbers)
    × (list_all (λ n. nat_lt n 256) (take l.number-index l.numbers) ≡ true)
    × (length l.numbers ≤ 12)
