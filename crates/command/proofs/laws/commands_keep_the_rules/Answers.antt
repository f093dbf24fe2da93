use Rattle.std.proofs.Common.{ℕ, List, subst}
use Rattle.asdu.specs.declared.sizes.Sizes.{Sizes}
use Rattle.command.specs.declared.station.StationInfo.{StationInfo}
use Rattle.command.specs.State.{State}
use Rattle.command.specs.History.{History}
use Rattle.command.specs.Calls.{Run, run}
use Rattle.command.specs.Laws.{AfterEachRun, OfEachRun}
use Rattle.command.proofs.Places.{run_counts}
use Rattle.command.proofs.Runs.{run_holds}
use Rattle.command.proofs.Bridge.{executes_selected}
use Rattle.command.proofs.Tagged.{run_fresh, run_tags}
use Rattle.command.proofs.OwnAnswers.{of_judging, of_busy}
use Rattle.command.proofs.Staying.{judging_leaves_answers}
use Rattle.command.proofs.Staying.{mirroring_leaves_waiting, mirroring_leaves_answers}
use Rattle.command.proofs.Staying.{sending_leaves_answers}
use Rattle.command.proofs.laws.commands_keep_the_rules.Goals as goal

-- what holds after each list of calls holds of the state and the history that it leaves
of_runs : (P : List StationInfo → Sizes → ℕ → ℕ → State → History → Type 0) → AfterEachRun P
    → OfEachRun P
of_runs P after stations sizes select_ms max_age_ms r is =
    subst (λ (x : Run). P stations sizes select_ms max_age_ms x.state x.history) is.1
    (after stations sizes select_ms max_age_ms is.0)

pub returns : goal.returns
returns c = record {
  stations = of_runs _ (λ stations sizes select_ms max_age_ms calls.
      (run_holds sizes stations select_ms max_age_ms calls).same_stations);
  sizes = of_runs _ (λ stations sizes select_ms max_age_ms calls.
      (run_holds sizes stations select_ms max_age_ms calls).same_sizes);
  select_ms = of_runs _ (λ stations sizes select_ms max_age_ms calls.
      (run_holds sizes stations select_ms max_age_ms calls).same_time);
  max_age_ms = of_runs _ (λ stations sizes select_ms max_age_ms calls.
      (run_holds sizes stations select_ms max_age_ms calls).same_age);
  forwarded = of_runs _ (λ stations sizes select_ms max_age_ms calls.
      (run_holds sizes stations select_ms max_age_ms calls).keeps.queue.sends);
  selected = of_runs _ (λ stations sizes select_ms max_age_ms calls.
      executes_selected sizes stations select_ms max_age_ms
      (run stations sizes select_ms max_age_ms calls).history
      (run_holds sizes stations select_ms max_age_ms calls).keeps.rightly
      (run_holds sizes stations select_ms max_age_ms calls).keeps.executes);
  places = of_runs _ (λ stations sizes select_ms max_age_ms calls.
      (run_counts stations sizes select_ms max_age_ms calls).waiting);
  right = of_runs _ (λ stations sizes select_ms max_age_ms calls.
      (run_holds sizes stations select_ms max_age_ms calls).keeps.rightly);
  fresh =
      of_runs _ (λ stations sizes select_ms max_age_ms calls. run_fresh stations sizes select_ms
      max_age_ms
      calls);
  tags = of_runs _ (λ stations sizes select_ms max_age_ms calls v. run_tags stations sizes select_ms
      max_age_ms
      calls v);
  in_turn = of_runs _ (λ stations sizes select_ms max_age_ms calls.
      (run_holds sizes stations select_ms max_age_ms calls).keeps.own.in_turn);
  kept =
      of_runs _ (λ stations sizes select_ms max_age_ms calls.
      (run_holds sizes stations select_ms max_age_ms
      calls).keeps.own.kept);
  busy_plain =
      of_runs _ (λ stations sizes select_ms max_age_ms calls. of_busy sizes stations select_ms
      max_age_ms calls);
  mirrored_waits = mirroring_leaves_waiting;
  judged_answers = judging_leaves_answers;
  mirrored_answers = mirroring_leaves_answers;
  sent_answers = sending_leaves_answers;
  judged_plain = of_judging;
}
