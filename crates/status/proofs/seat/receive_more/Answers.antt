use Rattle.std.proofs.Common.{refl}
use Rattle.status.proofs.SeatLemmas.{kept_received, kept_answered, turn_received}
use Rattle.status.proofs.seat.receive_more.Goals as goal

pub returns-in-Nothing-clause-kept : goal.returns-in-Nothing-clause-kept
returns-in-Nothing-clause-kept g c =
    kept_received _ _ _ _ _ _ c.args.desk.now c.receive.new.request c.requires.kept c.requires.stage
    c.receive.ensures.given c.receive.ensures.taken

pub returns-in-Nothing-clause-answers : goal.returns-in-Nothing-clause-answers
returns-in-Nothing-clause-answers g c = rw c.requires.stage c.in-Nothing.ensures

pub returns-in-Nothing-clause-gives : goal.returns-in-Nothing-clause-gives
returns-in-Nothing-clause-gives g c = (c.receive.ensures.given.0, c.receive.ensures.given.1)

pub returns-in_default : goal.returns-in_default
returns-in_default g c = record {
  kept = kept_answered _ _ _ _ _ _
      (kept_received _ _ _ _ _ _ c.args.desk.now c.receive.new.request c.requires.kept
      c.requires.stage
      c.receive.ensures.given c.receive.ensures.taken)
      c.requires.stage refl;
  since = refl;
  gives = (c.receive.ensures.given.0, c.receive.ensures.given.1);
  answers = (
    c.asked.result,
    c.asked.ensures,
    c.in_default.not-Nothing,
    c.make_answer.ensures.head,
    c.make_answer.ensures.body,
  );
  turn = turn_received _ _ _ _ _ _ c.requires.stage c.if-not-receive.ensures.looks;
}
