use Rattle.std.proofs.Common.{◌≡◌, ◌≤◌, ◌+◌, ◌∙◌, List, length, count_by, ap, sym, subst, arith}
use Rattle.std.proofs.lemmas.List.{length-append}
use Rattle.command.specs.Command.{command_at}
use Rattle.command.specs.State.{State}
use Rattle.command.specs.Stations.{is_addressed}
use Rattle.command.specs.Judging.{copies}
use Rattle.command.specs.declared.waiting.Waiting.{Waiting}
use Rattle.command.proofs.Kept.{copies_count}
use Rattle.command.proofs.commands.Commands.queue.Goals as goal

pub invariant_of-self : goal.invariant_of-self
invariant_of-self c =
    let octets = c.args.octets.now in
    let inside = c.self.inside in
    let P : State → Type 0 = λ s.
    length s.waiting + count_by (is_addressed (command_at octets)) s.stations ≤ 64 in
    let room : length inside.waiting.items + count_by (is_addressed (command_at octets))
    inside.stations.items ≤ 64 =
    subst P (sym c.self.view_is) c.requires.room in
    let long : length c.push_copies.new.waiting.items
    ≡ length inside.waiting.items + length (copies inside.sizes octets 0 c.as_slice.result.now) =
    ap (λ (ws : List Waiting). length ws) c.push_copies.ensures.items
    ∙ length-append inside.waiting.items (copies inside.sizes octets 0 c.as_slice.result.now) in
    let count : length (copies inside.sizes octets 0 c.as_slice.result.now)
    ≡ count_by (is_addressed (command_at octets)) inside.stations.items =
    rw c.as_slice.ensures.value (copies_count inside.sizes octets 0 inside.stations.items) in
    record {
      lines = c.self.invariant.lines;
      few = c.self.invariant.few;
      waiting = omega (arith, c.self.invariant.waiting, c.push_copies.ensures.capacity);
      few_waiting = omega (arith, room, long, count);
      room = c.self.invariant.room;
      sent = c.self.invariant.sent;
      asdus = c.self.invariant.asdus;
    }
