use Rattle.ft12.proofs.Exact.{one_front}
use Rattle.ft12.proofs.laws.one_front.Goals as goal

pub returns : goal.returns
returns c = λ size x a b h k. one_front size x b a k h
