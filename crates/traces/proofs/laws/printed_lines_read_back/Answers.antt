use Rattle.traces.proofs.ReadingBack.{first_read, log_above, log_read, log_unmarked, actions_read}
use Rattle.traces.proofs.EventLineLemmas.{event_logged}
use Rattle.traces.proofs.laws.printed_lines_read_back.Goals as goal

pub returns-clause-first : goal.returns-clause-first
returns-clause-first c = λ entry text ok. first_read entry text ok

pub returns-clause-log : goal.returns-clause-log
returns-clause-log c = λ log all. log_read log all

pub returns-clause-actions : goal.returns-clause-actions
returns-clause-actions c = λ log all. actions_read log all

pub returns-clause-events : goal.returns-clause-events
returns-clause-events c = λ event text fits. event_logged event text fits

pub returns-clause-marks : goal.returns-clause-marks
returns-clause-marks c = λ log all. log_unmarked log all

pub returns-clause-zeros : goal.returns-clause-zeros
returns-clause-zeros c = λ log all. log_above log all
