use Rattle.apci.proofs.Exact.{one_front}
use Rattle.apci.proofs.laws.one_front.Goals as goal

pub returns : goal.returns
returns c = λ x a b h k. one_front x b a k h
