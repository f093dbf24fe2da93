use Rattle.ft12.specs.Fronts.{front_of}
use Rattle.link.proofs.Called.{give_up_matches, doubt_matches}
use Rattle.link.proofs.AllGivenUp as up
use Rattle.link.proofs.laws.carrying.giving_up_is_logged.Goals as goal

pub returns-clause-awaits : goal.returns-clause-awaits
returns-clause-awaits c = λ settings addresses p e k t. up.awaits_logged (front_of settings.size)
    settings addresses p e k t

pub returns-clause-one : goal.returns-clause-one
returns-clause-one c = give_up_matches

pub returns-clause-all : goal.returns-clause-all
returns-clause-all c = up.all_matches

pub returns-clause-doubted : goal.returns-clause-doubted
returns-clause-doubted c = doubt_matches

pub returns-clause-reports : goal.returns-clause-reports
returns-clause-reports c = λ settings size addresses address e. up.same_reports settings
    (front_of size) addresses address e

pub returns-clause-gaps : goal.returns-clause-gaps
returns-clause-gaps c = λ settings size addresses e station. up.same_gaps settings
    (front_of size) addresses e station
