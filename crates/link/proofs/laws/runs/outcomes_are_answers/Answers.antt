use Rattle.ft12.specs.Fronts.{front_of}
use Rattle.link.proofs.Outcomes.{logged_octets, logged_due, early_due, quiet_octets, quiet_due}
use Rattle.link.proofs.laws.runs.outcomes_are_answers.Goals as goal

pub returns-clause-octets : goal.returns-clause-octets
returns-clause-octets c = λ settings addresses p e octets x t latest out. logged_octets
    (front_of settings.size) settings addresses p e octets x t latest out

pub returns-clause-due : goal.returns-clause-due
returns-clause-due c = λ settings addresses p e at x t latest out late. logged_due
    (front_of settings.size) settings addresses p e at x t latest out late

pub returns-clause-early : goal.returns-clause-early
returns-clause-early c = λ settings addresses p e at x t latest out early. early_due
    (front_of settings.size) settings addresses p e at x t latest out early

pub returns-clause-none : goal.returns-clause-none
returns-clause-none c = λ settings addresses p e octets at t none.
    let arrived = quiet_octets (front_of settings.size) settings addresses p e octets t none in
    let timed = quiet_due (front_of settings.size) settings addresses p e at t none in
    (arrived.0, arrived.1, timed.0, timed.1)
