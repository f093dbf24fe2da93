use Rattle.std.proofs.Common.{refl}
use Rattle.delivery.proofs.new_settings.new_settings_are_taken_up.Goals as goal

pub returns : goal.returns
returns c = record {
  line = λ goes_on before now s. (refl, refl);
  commands = λ goes_on before now s. (refl, refl, refl, refl);
  session = λ goes_on before now s. (refl, refl, refl, refl, refl);
  queue = λ goes_on before now s. refl;
  nothing_left = λ goes_on before now s. (refl, refl, refl, refl);
}
