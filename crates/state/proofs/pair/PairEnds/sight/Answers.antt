use Rattle.std.proofs.Common.{subst}
use Rattle.state.specs.Both.{Both}
use Rattle.state.proofs.pair.PairEnds.sight.Goals as goal

pub returns-clause-shows : goal.returns-clause-shows
returns-clause-shows g c = record {
  of_port = c.sight.result.syncs;
  port = subst (λ (b : Both _ _). g.P.Watched.shows b.port c.sight.result) c.self.view_is
      c.sight.ensures.shows;
}
