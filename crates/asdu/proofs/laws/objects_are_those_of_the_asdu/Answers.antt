use Rattle.asdu.proofs.Related.{is_read-IsAsdu, objects_of-IsAsdu, monitor_objects_of-IsAsdu}
use Rattle.asdu.proofs.Related.{parts-IsAsdu, not_read, no_objects, no_monitor_objects, no_parts}
use Rattle.asdu.proofs.laws.objects_are_those_of_the_asdu.Goals as goal

pub returns-clause-read : goal.returns-clause-read
returns-clause-read c = is_read-IsAsdu

pub returns-clause-objects : goal.returns-clause-objects
returns-clause-objects c = objects_of-IsAsdu

pub returns-clause-monitor_objects : goal.returns-clause-monitor_objects
returns-clause-monitor_objects c = monitor_objects_of-IsAsdu

pub returns-clause-pieces : goal.returns-clause-pieces
returns-clause-pieces c = parts-IsAsdu

pub returns-clause-not_read : goal.returns-clause-not_read
returns-clause-not_read c = not_read

pub returns-clause-nothing : goal.returns-clause-nothing
returns-clause-nothing c = λ s xs h. (no_objects s xs h, no_monitor_objects s xs h, no_parts s xs h)
