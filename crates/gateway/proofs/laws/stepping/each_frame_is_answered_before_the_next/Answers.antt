use Rattle.gateway.proofs.Stepping.{answered_first, asked_behind}
use Rattle.gateway.proofs.laws.stepping.each_frame_is_answered_before_the_next.Goals as goal

pub returns : goal.returns
returns c = record { next = answered_first; request = asked_behind }
