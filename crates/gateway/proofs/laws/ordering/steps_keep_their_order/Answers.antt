use Rattle.std.proofs.Common.{arith}
use Rattle.gateway.specs.Setups.{setup_of}
use Rattle.gateway.proofs.Order.{keeps_order}
use Rattle.gateway.proofs.laws.ordering.steps_keep_their_order.Goals as goal

pub returns : goal.returns
returns c = record {
  setups = λ p log w t3 f. keeps_order p w t3 log f.times f.acts;
  settings = λ s log f. keeps_order (setup_of s) (omega (arith, s.tcp.w_in_range.0))
      (omega (arith, s.tcp.t3_in_range.0)) log f.times f.acts;
}
