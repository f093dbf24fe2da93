use Rattle.link.proofs.Hearing.{noise, other}
use Rattle.link.proofs.laws.hearing.only_the_first_frame_is_heard.Goals as goal

pub returns : goal.returns
returns c = record {
  noise = noise;
  other = other;
}
