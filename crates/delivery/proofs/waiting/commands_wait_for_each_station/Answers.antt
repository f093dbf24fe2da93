use Rattle.std.proofs.Common.{List, inl, inr, refl}
use Rattle.gateway.specs.Calling.{waiting_by}
use Rattle.gateway.specs.Course.{Course, room_in}
use Rattle.gateway.specs.Frames.{Connection}
use Rattle.gateway.specs.Line.{IsLineAtRest, IsWaiting, LacksOnlyRoom}
use Rattle.gateway.specs.Log.{Log}
use Rattle.gateway.specs.Reports.{Setup}
use Rattle.delivery.proofs.Closing.{taken_all}
use Rattle.delivery.proofs.PollsStay.{polls_owed}
use Rattle.delivery.proofs.waiting.commands_wait_for_each_station.Goals as goal

-- a line at rest with no exchange out lacks room and nothing else
lacks : (p : Setup) (log : Log) (c : Course) (connections : List Connection)
    → IsLineAtRest p log c connections → (IsWaiting p log → ⊥) → LacksOnlyRoom p log c connections
lacks p log c connections (inl out) none = absurd (none out)
lacks p log c connections (inr lacking) none = lacking

pub returns : goal.returns
returns c = record {
  asked = λ p log calls asks. (
    asks.course,
    asks.runs,
    room_in p log asks.course,
    waiting_by p asks.course.works.history,
    asks.are,
    λ station. refl,
  );
  unasked = λ p log calls asks. asks;
  holds = λ p log course connections station rests none below.
      (lacks p log course connections rests none).free station below;
  rests = λ p log course connections station rests none below.
      (lacks p log course connections rests none).served station below;
  held = polls_owed;
  all = λ p log calls asks. (
    asks.course,
    asks.runs,
    taken_all log asks.course asks.all,
    room_in p log asks.course,
    waiting_by p asks.course.works.history,
    asks.are,
    (λ station. refl),
    c.polls_need_three_places.ensures.log p log asks.course,
  );
}
