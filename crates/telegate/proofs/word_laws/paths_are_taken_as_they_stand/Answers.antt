use Rattle.std.proofs.Common.{true, false, [], ◌∷◌, Some, None, refl}
use Rattle.std.specs.Prelude.{codes}
use Rattle.clap.specs.Walk.{bundle_met, walked}
use Rattle.clap.specs.Faults.{flags_fault, walk_fault, defaults_fault}
use Rattle.telegate.proofs.Worded.{check_is, replay_is, sim_is, state_is, stations_are}
use Rattle.telegate.proofs.Worded.{status_is, two_are}
use Rattle.telegate.proofs.word_laws.paths_are_taken_as_they_stand.Goals as goal

pub returns-clause-states : goal.returns-clause-states
unfolding bundle_met walked flags_fault walk_fault defaults_fault
returns-clause-states c a b = (
  λ x y r. (refl, state_is (47 ∷ a) None false _ _ _ x y r refl refl refl),
  λ x y r. (refl, state_is (47 ∷ a) (Some (47 ∷ b)) true _ _ _ x y r refl refl refl),
)

pub returns-clause-files : goal.returns-clause-files
unfolding bundle_met walked flags_fault walk_fault defaults_fault
returns-clause-files c a b = (
  λ one other. (refl, two_are (codes "audit") (47 ∷ a) (47 ∷ b) _ _ one other refl refl),
  λ one other. (refl, two_are (codes "capture") (47 ∷ a) (47 ∷ b) _ _ one other refl refl),
  λ x y w. (refl, stations_are (47 ∷ a) (47 ∷ b) false _ _ _ x y w refl refl refl),
)

pub returns-clause-checks : goal.returns-clause-checks
unfolding bundle_met walked flags_fault walk_fault defaults_fault
returns-clause-checks c a b = (
  λ x s l e. (refl, check_is (47 ∷ a) None false false _ _ _ _ x s l e refl refl refl refl),
  λ x s l e. (
    refl,
    check_is (47 ∷ a) (Some (47 ∷ b)) true false _ _ _ _ x s l e refl refl refl refl,
  ),
)

pub returns-clause-sims : goal.returns-clause-sims
unfolding bundle_met walked flags_fault walk_fault defaults_fault
returns-clause-sims c a b = λ x y w o.
    (refl, sim_is (47 ∷ a) (47 ∷ b) false false _ _ _ _ x y w o refl refl refl refl)

pub returns-clause-replays : goal.returns-clause-replays
unfolding bundle_met walked flags_fault walk_fault defaults_fault
returns-clause-replays c a b = λ x y l n w o. (
  refl,
  replay_is (47 ∷ a) (47 ∷ b) false true false false _ _ _ _ _ _ x y l n w o refl refl refl refl
      refl refl,
)

pub returns-clause-statuses : goal.returns-clause-statuses
unfolding bundle_met walked flags_fault walk_fault defaults_fault
returns-clause-statuses c a = λ x j. (refl, status_is (47 ∷ a) true _ _ x j refl refl)
