use Rattle.std.proofs.Common.{◌≡◌, ◌++◌, string_bytes}
use Rattle.std.specs.List.{flat_map, AllByRecursion}
use Rattle.asdu.specs.Asdu.{IsInfo}
use Rattle.asdu.specs.Sizes.{ioa_len}
use Rattle.asdu.specs.Reading.{value_of}
use Rattle.asdu.specs.Objects.{infos_left}
use Rattle.words.specs.UnitFacts.{object_line}
use Rattle.words.proofs.facts.units.push_objects.Given as goal

abbrev pub invariant-loop-object : goal.invariant-loop-object
invariant-loop-object l = record {
  can : (goal.iterator-loop-object).can_next l.object-iterator;
  finite : (goal.iterator-loop-object).is_finite l.object-iterator;
  text : string_bytes l.lines ++ flat_map (object_line l.asdu.kind) (infos_left l.object-iterator)
      ≡ string_bytes l.initial.lines ++ flat_map (object_line l.asdu.kind) (value_of l.asdu).infos;
  sized : AllByRecursion (IsInfo l.asdu.kind (ioa_len l.asdu.sizes.ioa))
      (infos_left l.object-iterator);
}
