use Rattle.link.proofs.Round.{nth_is}
use Rattle.link.proofs.Turning.{goes_on, passes_on, comes, rests, first_turn}
use Rattle.link.proofs.laws.runs.turns_go_round.Goals as goal

pub returns-clause-goes_on : goal.returns-clause-goes_on
returns-clause-goes_on c = goes_on

pub returns-clause-passes_on : goal.returns-clause-passes_on
returns-clause-passes_on c = passes_on

pub returns-clause-comes : goal.returns-clause-comes
returns-clause-comes c = comes

pub returns-clause-rests : goal.returns-clause-rests
returns-clause-rests c = rests

pub returns-clause-order : goal.returns-clause-order
returns-clause-order c = nth_is

pub returns-clause-first : goal.returns-clause-first
returns-clause-first c = first_turn
