use Rattle.command.proofs.Numbers.{addresses_hold, objects_hold, targets_hold, elements_hold}
use Rattle.command.proofs.Numbers.{acts_hold, forms_hold}
use Rattle.command.proofs.Outcomes.{confirmations_hold, causes_hold, times_hold}
use Rattle.command.proofs.laws.rules_hold_for_all_numbers.Goals as goal

pub returns-clause-addresses : goal.returns-clause-addresses
returns-clause-addresses c = addresses_hold

pub returns-clause-objects : goal.returns-clause-objects
returns-clause-objects c = objects_hold

pub returns-clause-targets : goal.returns-clause-targets
returns-clause-targets c = targets_hold

pub returns-clause-elements : goal.returns-clause-elements
returns-clause-elements c = elements_hold

pub returns-clause-acts : goal.returns-clause-acts
returns-clause-acts c = acts_hold

pub returns-clause-forms : goal.returns-clause-forms
returns-clause-forms c = forms_hold

pub returns-clause-confirmations : goal.returns-clause-confirmations
returns-clause-confirmations c = confirmations_hold

pub returns-clause-causes : goal.returns-clause-causes
returns-clause-causes c = causes_hold

pub returns-clause-times : goal.returns-clause-times
returns-clause-times c = times_hold
