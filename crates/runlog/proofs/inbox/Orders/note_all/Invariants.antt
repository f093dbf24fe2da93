use Rattle.std.proofs.Common.{◌≡◌, ◌-◌, ◌≤◌, length, drop}
use Rattle.runlog.specs.Inbox.{all_noted}
use Rattle.runlog.proofs.inbox.Orders.note_all.Given as goal

abbrev pub invariant-loop-turn : goal.invariant-loop-turn
invariant-loop-turn l = record {
  within : l.done ≤ length l.octets;
  all : all_noted (length l.octets - l.turn) l.gateway l.is_closed l.peer (drop l.done l.octets)
      l.self
      ≡ all_noted (length l.octets) l.gateway l.is_closed l.peer l.octets l.initial.self;
}
