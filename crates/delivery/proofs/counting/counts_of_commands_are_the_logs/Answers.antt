use Rattle.std.proofs.Common.{false, List, ap, ◌∙◌, length}
use Rattle.std.specs.Io.Iter.{u64_saturate}
use Rattle.command.specs.Calls.{Run}
use Rattle.command.specs.CommandLaws.{CommandLaws}
use Rattle.command.specs.Laws.{IsRun}
use Rattle.gateway.specs.Works.{tasks_of, unless_silent_works}
use Rattle.delivery.specs.Commands.{LineStep}
use Rattle.delivery.specs.Counts.{lost_in, lost_of}
use Rattle.delivery.specs.Joined.{IsJoined}
use Rattle.delivery.proofs.Counts.{sum_same, lost_logged, silent_run, lost_done}
use Rattle.delivery.specs.LinkLaws.{LinkLaws}
use Rattle.delivery.proofs.Unpassed.{mirrors_counted}
use Rattle.delivery.proofs.counting.counts_of_commands_are_the_logs.Goals as goal

pub returns-clause-lost : goal.returns-clause-lost
returns-clause-lost c = λ p log course f set runs.
    let joined : IsJoined p log course =
    c.the_course_is_the_logs.ensures p log course f set runs in
    let laws : CommandLaws = c.commands_keep_the_rules.ensures in
    let all : Run =
    tasks_of (unless_silent_works course.works.serial.silent course.works) in
    let calls = (c.courses_keep_commands.ensures p log course runs).made in
    let made : IsRun p.stations p.sizes p.select_ms p.max_age_ms all =
    silent_run p course.works.serial.silent course.works (calls.0, calls.1) in
    c.counts_match_commands.ensures.lost p log course runs
    ∙ ap u64_saturate
    (lost_done p log course joined.all_logged
    ∙ lost_logged p.sizes p.stations p.select_ms p.max_age_ms all.history
    (laws.right p.stations p.sizes p.select_ms p.max_age_ms all made)
    (laws.forwarded p.stations p.sizes p.select_ms p.max_age_ms all made)
    ∙ sum_same _ (lost_of p log) (length p.stations)
    (λ k lt. ap (λ (steps : List LineStep). lost_in false steps) (joined.steps k)))

pub returns-clause-mirrors : goal.returns-clause-mirrors
returns-clause-mirrors c = λ p log course f set runs.
    let laws : LinkLaws = c.the_line_is_its_exchanges.ensures in
    mirrors_counted laws c.waiting_commands_stay.ensures.mirrored p set log course runs f.acts
