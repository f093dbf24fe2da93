use Rattle.delivery.proofs.Octets.{present_on, over_on, shut, never_open, before_event}
use Rattle.delivery.proofs.received.octets_are_those_of_their_connection.Goals as goal

pub returns : goal.returns
returns c = record {
  begun = λ now since before h. present_on now before since h;
  ended = λ now entry since before h e. over_on now before since h entry e;
  closed = λ entry since before h e o. shut entry since before h e o;
  none = never_open;
  before_event = λ now event actions log h. before_event now event log actions h;
}
