use Rattle.std.proofs.Common.{subst}
use Rattle.live.specs.Ends.{LiveEnds}
use Rattle.live.specs.Runs.{ShowsRun}
use Rattle.live.proofs.Runs.{shown_so}
use Rattle.live.proofs.port.LiveWatched.sight.Goals as goal

pub returns-clause-shows : goal.returns-clause-shows
returns-clause-shows g c =
    subst (λ (e : LiveEnds). ShowsRun e c.sight.result) c.self.view_is
    (shown_so _ _ c.self.invariant c.sight.ensures.shows)
