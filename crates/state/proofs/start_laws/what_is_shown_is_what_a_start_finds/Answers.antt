use Rattle.state.proofs.Begins.{begins_as_shown, gateway_shown, log_shown}
use Rattle.state.proofs.start_laws.what_is_shown_is_what_a_start_finds.Goals as goal

pub returns-clause-begins : goal.returns-clause-begins
returns-clause-begins g c = λ wanted text log is_stale newest other o first second s shown over one
    two. begins_as_shown {g = g.D.Disk} wanted text log is_stale newest other o first second s shown
    over one two

pub returns-clause-log : goal.returns-clause-log
returns-clause-log g c = log_shown

pub returns-clause-gateway : goal.returns-clause-gateway
returns-clause-gateway g c = gateway_shown
