use Rattle.link.proofs.SessionsOn as on
use Rattle.link.proofs.laws.carrying.sessions_go_on.Goals as goal

pub returns : goal.returns
returns c = record {
  given_up = on.sessions_given_up;
  released = on.sessions_released;
  carried = on.sessions_carried;
  marked = on.session_marked;
  alone = on.session_alone_marked;
  others = on.others_unmarked;
}
