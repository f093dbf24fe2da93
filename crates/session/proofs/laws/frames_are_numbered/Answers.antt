use Rattle.std.proofs.Common.{refl}
use Rattle.session.proofs.Keeps.{run_keeps}
use Rattle.session.proofs.laws.frames_are_numbered.Goals as goal

pub returns-clause-gone : goal.returns-clause-gone
returns-clause-gone c = λ p calls range. (run_keeps p calls range).numbered

pub returns-clause-next_sent : goal.returns-clause-next_sent
returns-clause-next_sent c = λ p calls range. (run_keeps p calls range).window.next_is

pub returns-clause-next_received : goal.returns-clause-next_received
returns-clause-next_received c = λ p calls range. (run_keeps p calls range).receipt.next_is

pub returns-clause-supervisory : goal.returns-clause-supervisory
returns-clause-supervisory c = λ h. refl
