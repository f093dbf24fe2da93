use Rattle.std.proofs.Common.{refl}
use Rattle.gateway.proofs.Tallies.{counted_done}
use Rattle.gateway.proofs.laws.counts_match_commands.Goals as goal

pub returns : goal.returns
returns c = record {
  told = λ s. (refl, refl, refl, refl);
  lost = λ p log course runs. (counted_done p log course runs).0;
  mirrors = λ p log course runs. (counted_done p log course runs).1;
}
