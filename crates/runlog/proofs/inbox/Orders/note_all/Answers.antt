use Rattle.std.proofs.Common.{rules, arith}
use Rattle.runlog.proofs.Inboxes.{turn_last, turn_more, turn_within}
use Rattle.runlog.proofs.inbox.Orders.note_all.Goals as goal

pub returns-then-not-is_whole-clause-all : goal.returns-then-not-is_whole-clause-all
returns-then-not-is_whole-clause-all c =
    turn_last c.args.octets.now c.loop-turn.done c.loop-turn.turn c.args.gateway.now
    c.args.is_closed c.args.peer
    c.loop-turn.self _ (omega arith) (search (rules, c.if-not-is_whole.ensures))
    c.loop-turn.invariant.all

pub loop-turn-preserved : goal.loop-turn-preserved
loop-turn-preserved c = record {
  within = turn_within c.args.octets.now c.loop-turn.done c.apdu_len-len.result
      c.loop-turn.invariant.within
      (search (rules, c.if-not-is_whole.ensures)) c.apdu_len-len.ensures.value;
  all = turn_more c.args.octets.now c.loop-turn.done c.loop-turn.turn c.apdu_len-len.result
      c.args.gateway.now
      c.args.is_closed c.args.peer c.loop-turn.self c.note_apdu.new.self _ (omega arith)
      (search (rules, c.if-not-is_whole.ensures)) c.apdu_len-len.ensures.value c.note_apdu.ensures
      c.loop-turn.invariant.all;
}
