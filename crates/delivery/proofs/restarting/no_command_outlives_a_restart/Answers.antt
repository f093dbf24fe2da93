use Rattle.std.proofs.Common.{◌∷◌, ◌++◌, ℕ, sym, ◌∙◌, subst, ◌<◌}
use Rattle.gateway.specs.Log.{Came, Restarted}
use Rattle.gateway.specs.Reports.{exchanges_of}
use Rattle.delivery.proofs.FirstSendings.{came_behind, shut_behind}
use Rattle.delivery.proofs.Joining.{Joins, joins, left_joins}
use Rattle.delivery.proofs.PollsStay.{unchanged}
use Rattle.delivery.specs.LinkLaws.{LinkLaws}
use Rattle.delivery.proofs.restarting.no_command_outlives_a_restart.Goals as goal

pub returns-clause-first : goal.returns-clause-first
returns-clause-first c = λ p newer since older now at station octets f set.
    let sends = c.commands_go_out_on_their_own_connection.ensures.open p newer
    (since ++ Came at Restarted ∷ older) now station octets f set in (
      sends.0,
      sends.1,
      sends.2,
      sends.3,
      came_behind at older since sends.0 sends.2,
    )

pub returns-clause-none : goal.returns-clause-none
returns-clause-none c = λ p newer since older now at station octets f set none.
    c.commands_go_out_on_their_own_connection.ensures.shut p newer
    (since ++ Came at Restarted ∷ older) now station octets f set
    (shut_behind at older since none)

pub returns-clause-again : goal.returns-clause-again
returns-clause-again c = λ p log at station f set within.
    let laws : LinkLaws = c.the_line_is_its_exchanges.ensures in
    let stay = c.waiting_commands_stay.ensures.mirrored in
    let now : Joins p (exchanges_of p (Came at Restarted ∷ log)) f.course.works =
    joins laws stay p set (Came at Restarted ∷ log) f.course f.course_runs f.acts in
    let gives = c.restarts_give_up_commands.ensures.course p log at f.course f.course_runs in
    let left : Joins p (exchanges_of p log) gives.1.works =
    (left_joins laws stay p log gives.0 gives.1 (exchanges_of p log) gives.3
    (joins laws stay p set log gives.0 gives.2 f.acts)).1 in
    sym (c.giving_up_is_logged.ensures.awaits p.link p.addresses f.course.works.serial.line
    (exchanges_of p (Came at Restarted ∷ log)) station now.matches)
    ∙ gives.5.done station (subst (λ (n : ℕ). station < n) (sym left.matches.count) within)

pub returns-clause-polls : goal.returns-clause-polls
returns-clause-polls c = λ p log at station other.
    unchanged c.the_line_is_its_exchanges.ensures.others p station (exchanges_of p log) other
