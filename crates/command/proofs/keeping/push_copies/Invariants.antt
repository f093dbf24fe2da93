use Rattle.std.proofs.Common.{◌≡◌, ◌≤◌, ◌+◌, ◌++◌, count_by, drop, vec_len, vec_capacity}
use Rattle.command.specs.Command.{command_at}
use Rattle.command.specs.Stations.{is_addressed}
use Rattle.command.specs.Judging.{copies}
use Rattle.command.proofs.keeping.push_copies.Given as goal

abbrev pub invariant-loop-i : goal.invariant-loop-i
invariant-loop-i l = record {
  whole : l.waiting.items ++ copies l.sizes l.octets l.i (drop l.i l.stations) ≡ l.fn.waiting.items
      ++ copies l.sizes l.octets 0 l.stations;
  room : vec_len l.waiting + count_by (is_addressed (command_at l.octets)) (drop l.i l.stations)
      ≤ vec_capacity l.waiting;
  capacity : vec_capacity l.waiting ≡ vec_capacity l.fn.waiting;
}
