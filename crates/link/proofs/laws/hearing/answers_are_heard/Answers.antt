use Rattle.link.proofs.Hearing.{whole, over, part, pieces, goes_out}
use Rattle.link.proofs.laws.hearing.answers_are_heard.Goals as goal

pub returns : goal.returns
returns c = record {
  asked = goes_out;
  whole = λ front p o octets frame n. whole front p o octets frame n;
  over = λ front p o octets frame n answer. over front p o octets frame n answer;
  part = λ front p o before octets. part front p o before octets;
  pieces = pieces;
}
