-- A connection that a new one replaces is reported as closed, and nothing else is with its cause.
use Rattle.std.proofs.Common.{◌≡◌, ℕ, [], ◌∷◌, ◌++◌, ◌∙◌}
use Rattle.gateway.specs.Log.{Log, Came, Went}
use Rattle.gateway.specs.Reports.{Setup}
use Rattle.gateway.specs.Traffic.{ActsRightly}

-- what holds of each action of a log holds of those of its beginning
pub acts_before : (p : Setup) (newer older : Log) → ActsRightly p (newer ++ older)
    → ActsRightly p older
acts_before p [] older h = h
acts_before p (Went now action ∷ newer) older h = acts_before p newer older h.1
acts_before p (Came now event ∷ newer) older h = acts_before p newer older h
