use Rattle.std.proofs.Common.{◌∙◌}
use Rattle.command.specs.Command.{command_at}
use Rattle.command.specs.Stations.{is_addressed}
use Rattle.command.proofs.Kept.{copies_more, room_more, copies_end}
use Rattle.command.proofs.keeping.push_copies.Goals as goal

pub loop-i-preserved : goal.loop-i-preserved
loop-i-preserved c =
    let octets = c.args.octets.now in
    let stations = c.args.stations.now in
    record {
      whole = copies_more c.args.sizes octets stations c.loop-i.i _ c.loop-i.waiting.items _ _
          c.loop-i-test.true
          c.push_copy.ensures.items c.loop-i.invariant.whole;
      room = room_more (is_addressed (command_at octets)) stations c.loop-i.i _ _ _ _ _
          c.loop-i-test.true
          c.push_copy.ensures.count c.push_copy.ensures.capacity c.loop-i.invariant.room;
      capacity = c.push_copy.ensures.capacity ∙ c.loop-i.invariant.capacity;
    }

pub returns-clause-items : goal.returns-clause-items
returns-clause-items c =
    copies_end c.args.sizes c.args.octets.now c.args.stations.now c.loop-i.i _ _ c.loop-i-test.false
    c.loop-i.invariant.whole
