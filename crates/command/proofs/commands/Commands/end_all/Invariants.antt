use Rattle.std.proofs.Common.{◌≡◌}
use Rattle.asdu.specs.Reading.{value_of}
use Rattle.asdu.specs.Objects.{infos_left}
use Rattle.command.specs.Mirrors.{all_over}
use Rattle.command.proofs.commands.Commands.end_all.Given as goal

abbrev pub invariant-loop-object : goal.invariant-loop-object
invariant-loop-object l = record {
  can : goal.iterator-loop-object.can_next l.object-iterator;
  finite : goal.iterator-loop-object.is_finite l.object-iterator;
  whole : all_over (value_of l.asdu) (infos_left l.object-iterator) l.self
      ≡ all_over (value_of l.asdu) (value_of l.asdu).infos l.fn.self;
}
