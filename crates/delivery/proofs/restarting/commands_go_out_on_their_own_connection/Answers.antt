use Rattle.std.proofs.Common.{◌∷◌, [], ℕ, List, ◌⊎◌}
use Rattle.gateway.specs.Log.{Log, Went, LineOut}
use Rattle.gateway.specs.Reports.{Setup}
use Rattle.gateway.specs.Traffic.{IsFaithful}
use Rattle.delivery.specs.FirstSendings.{SendsFirst, SendsNoneFirst, open_arrivals}
use Rattle.delivery.specs.Joined.{IsSetUp}
use Rattle.delivery.proofs.FirstSendings.{of_the_open_one, of_none}
use Rattle.delivery.proofs.Frames.{none_came}
use Rattle.delivery.proofs.restarting.commands_go_out_on_their_own_connection.Goals as goal

sends : (c : goal.After-courses_keep_commands) (p : Setup) (log : Log) (now station : ℕ)
    (octets : List ℕ) (f : IsFaithful p (Went now (LineOut octets) ∷ log)) → IsSetUp p
    → SendsNoneFirst p station now octets log
    ⊎ SendsFirst p station now octets log (open_arrivals log f.course_runs.0)
sends c p log now station octets f set =
    let new : Log = Went now (LineOut octets) ∷ log in
    let before : IsFaithful p log =
    c.promises_hold_at_each_moment.ensures p (Went now (LineOut octets) ∷ []) log set f in
    let keeps = c.courses_keep_commands.ensures p new f.course f.course_runs in
    of_the_open_one p station now octets log f.course_runs.0 f.course
    (c.the_course_is_the_logs.ensures p log f.course_runs.0 before set f.course_runs.1)
    (c.the_course_is_the_logs.ensures p new f.course f set f.course_runs) f.course_runs.2
    keeps.forwarded keeps.answered

pub returns-clause-open : goal.returns-clause-open
returns-clause-open c = λ p newer log now station octets f set.
    let then : IsFaithful p (Went now (LineOut octets) ∷ log) =
    c.promises_hold_at_each_moment.ensures p newer (Went now (LineOut octets) ∷ log) set f in (
      then.course_runs.0,
      then.course_runs.1,
      then.course_runs.2.all,
      sends c p log now station octets then set,
    )

pub returns-clause-shut : goal.returns-clause-shut
returns-clause-shut c = λ p newer log now station octets f set shut.
    let then : IsFaithful p (Went now (LineOut octets) ∷ log) =
    c.promises_hold_at_each_moment.ensures p newer (Went now (LineOut octets) ∷ log) set f in
    of_none p station now octets log then.course_runs.0
    (none_came p log then.course_runs.0 then.course_runs.1 shut)
    (sends c p log now station octets then set)
