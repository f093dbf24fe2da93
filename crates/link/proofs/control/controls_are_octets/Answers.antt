use Rattle.link.proofs.Controls.{has_fields}
use Rattle.link.proofs.control.controls_are_octets.Goals as goal

pub returns-clause-fields : goal.returns-clause-fields
returns-clause-fields c = has_fields
