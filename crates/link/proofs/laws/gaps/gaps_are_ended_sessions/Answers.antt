use Rattle.link.specs.Outstation.{unreset}
use Rattle.link.proofs.EndedGaps.{gaps_ended, even_turns}
use Rattle.link.proofs.laws.gaps.gaps_are_ended_sessions.Goals as goal

pub returns-clause-ended : goal.returns-clause-ended
returns-clause-ended c = λ settings station xs turns keeps even. gaps_ended settings station xs
    turns keeps even

pub returns-clause-honest : goal.returns-clause-honest
returns-clause-honest c = λ station xs turns h. even_turns station unreset h.end xs turns h.run
