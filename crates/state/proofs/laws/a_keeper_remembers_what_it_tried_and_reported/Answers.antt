use Rattle.state.proofs.Tended.{remembered}
use Rattle.state.proofs.laws.a_keeper_remembers_what_it_tried_and_reported.Goals as goal

pub returns : goal.returns
returns g c = λ old new state notice calls tended was.
    remembered g.E.Ends.log g.E.Ends.deeds old new state notice calls tended was
