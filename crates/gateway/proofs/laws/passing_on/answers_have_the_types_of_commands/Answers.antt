use Rattle.std.proofs.Common.{refl}
use Rattle.gateway.proofs.AnswerTypes.{type_is}
use Rattle.gateway.proofs.laws.passing_on.answers_have_the_types_of_commands.Goals as goal

pub returns : goal.returns
returns c = record {
  types = type_is;
  reports = λ o objects. type_is o.kind;
  none = refl;
}
