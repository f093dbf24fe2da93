use Rattle.link.proofs.Lives.{life_runs, ledger, stays}
use Rattle.link.proofs.laws.life.station_is_an_outstation.Goals as goal

pub returns : goal.returns
returns c = record {
  run = λ s calls. life_runs s calls;
  class1 = λ s calls lt. let l = ledger s calls lt in l.class1;
  class2 = λ s calls lt. let l = ledger s calls lt in l.class2;
  accepted = λ s calls lt. let l = ledger s calls lt in l.accepted;
  given = λ s calls lt. let l = ledger s calls lt in l.given;
  address = λ s calls. (stays s calls).0;
  size = λ s calls. (stays s calls).1;
}
