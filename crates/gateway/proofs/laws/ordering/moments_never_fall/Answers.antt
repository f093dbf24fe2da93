use Rattle.gateway.proofs.Moments.{latest_is_greatest, bear_greatest}
use Rattle.gateway.proofs.Saying.{said_in_steps}
use Rattle.gateway.proofs.laws.ordering.moments_never_fall.Goals as goal

pub returns : goal.returns
returns c = record {
  step = λ p log f. latest_is_greatest p log f.acts;
  actions = λ p log f. bear_greatest p log f.acts;
  talk = said_in_steps;
}
