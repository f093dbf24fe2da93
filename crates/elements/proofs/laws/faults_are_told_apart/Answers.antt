use Rattle.elements.proofs.Faults.{range, day, weekday, marked, good}
use Rattle.elements.proofs.laws.faults_are_told_apart.Goals as goal

pub returns : goal.returns
returns c = record {
  range = range;
  day = day;
  weekday = weekday;
  marked = marked;
  good = good;
}
