use Rattle.ft12.specs.Fronts.{front_of}
use Rattle.ft12.proofs.Exact.{one_front}
use Rattle.ft12.proofs.Computed.{front_is, front_of-nil, front_of-whole, front_of-never}
use Rattle.ft12.proofs.Computed.{front_of-spelling}
use Rattle.ft12.proofs.laws.front_is_computed.Goals as goal

pub returns : goal.returns
returns c = record {
  right = front_is;
  only = λ size x f right. one_front size x (front_of size x) f (front_is size x) right;
  nothing = front_of-nil;
  whole = front_of-whole;
  never = front_of-never;
  spelled = front_of-spelling;
}
