use Rattle.std.proofs.Common.{sym, ◌∙◌}
use Rattle.asdu.specs.Reading.{value_of}
use Rattle.asdu.specs.Sizes.{tcp}
use Rattle.sim.proofs.TextLemmas.{counted_objects}
use Rattle.sim.proofs.connections.objects_in_asdu.Goals as goal

pub returns-in-Ok : goal.returns-in-Ok
returns-in-Ok c = counted_objects (value_of c.in-Ok.asdu) _ c.number.result c.number.ensures.counted
    (c.objects_are_those_of_the_asdu.ensures.monitor_objects tcp
    (value_of c.in-Ok.asdu) c.args.asdu.now c.in-Ok.ensures.found)
    (sym c.is_passed_on.ensures.value ∙ c.if-is_passed_on.true)
