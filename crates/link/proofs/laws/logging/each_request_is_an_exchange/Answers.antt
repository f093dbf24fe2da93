use Rattle.link.proofs.Logging.{requests, with_one, grows, says, says_nothing}
use Rattle.link.proofs.laws.logging.each_request_is_an_exchange.Goals as goal

pub returns : goal.returns
returns c = record {
  requests = requests;
  station = with_one;
  octets = grows;
  answer = says;
  none = says_nothing;
}
