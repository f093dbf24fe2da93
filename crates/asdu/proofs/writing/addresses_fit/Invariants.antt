use Rattle.std.proofs.Common.{◌<◌}
use Rattle.std.specs.List.{AllByRecursion}
use Rattle.asdu.specs.Objects.{infos_left}
use Rattle.asdu.proofs.writing.addresses_fit.Given as goal

-- the addresses that are left fit exactly if all do
abbrev pub invariant-loop-object : goal.invariant-loop-object
invariant-loop-object l = record {
  can : goal.iterator-loop-object.can_next l.object-iterator;
  finite : goal.iterator-loop-object.is_finite l.object-iterator;
  yes : AllByRecursion (λ i. i.address < l.limit) (infos_left l.object-iterator)
      → AllByRecursion (λ i. i.address < l.limit) (infos_left l.fn.objects);
  no_other : AllByRecursion (λ i. i.address < l.limit) (infos_left l.fn.objects)
      → AllByRecursion (λ i. i.address < l.limit) (infos_left l.object-iterator);
}
