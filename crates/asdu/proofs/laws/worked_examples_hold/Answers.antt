use Rattle.asdu.proofs.WorkedExamples.{octets_hold, refusals_hold, passed_hold, parts_hold}
use Rattle.asdu.proofs.laws.worked_examples_hold.Goals as goal

pub returns : goal.returns
returns c = record {
  octets = octets_hold;
  refusals = refusals_hold;
  passed = passed_hold;
  parts =
      parts_hold;
}
