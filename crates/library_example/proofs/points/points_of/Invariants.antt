use Rattle.std.proofs.Common.{◌≡◌, ◌++◌, map}
use Rattle.std.specs.List.{AllByRecursion}
use Rattle.asdu.specs.Asdu.{IsInfo}
use Rattle.asdu.specs.Sizes.{ioa_len}
use Rattle.asdu.specs.Reading.{value_of}
use Rattle.asdu.specs.Objects.{infos_left}
use Rattle.library_example.specs.Points.{point_of}
use Rattle.library_example.proofs.points.points_of.Given as goal

-- the points so far, and those of the objects that are left, are all of them
abbrev pub invariant-loop-object : goal.invariant-loop-object
invariant-loop-object l = record {
  can : (goal.iterator-loop-object).can_next l.object-iterator;
  finite : (goal.iterator-loop-object).is_finite l.object-iterator;
  all : l.points.items ++ map (point_of l.asdu.kind) (infos_left l.object-iterator)
      ≡ map (point_of l.asdu.kind) (value_of l.asdu).infos;
  sized : AllByRecursion (IsInfo l.asdu.kind (ioa_len l.asdu.sizes.ioa))
      (infos_left l.object-iterator);
}
