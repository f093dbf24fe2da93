use Rattle.std.proofs.Common.{None, refl}
use Rattle.link.specs.Bursts.{Other}
use Rattle.link.specs.Carried.{reseated}
use Rattle.link.proofs.Timed.{all_in_time}
use Rattle.link.proofs.Repeating.{repeat_on}
use Rattle.link.proofs.BehindHeld.{go_behind, none_again}
use Rattle.link.proofs.Bursting.{go_on}
use Rattle.link.proofs.laws.beginnings.new_settings_keep_the_procedures.Goals as goal

pub returns : goal.returns
returns c = record {
  time = λ settings seats p calls. all_in_time (reseated settings seats p) None calls tt;
  repeats = λ settings seats p calls. repeat_on (reseated settings seats p) None calls (refl, refl);
  held = λ settings seats p calls. go_behind (reseated settings seats p) None calls
      (none_again (reseated settings seats p) refl);
  bursts = λ settings seats p calls. go_on (reseated settings seats p) Other calls tt;
}
