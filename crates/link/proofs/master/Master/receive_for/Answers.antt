use Rattle.std.proofs.Common.{◌<◌, ℕ, sym, subst}
use Rattle.std.proofs.lemmas.List.{length-set}
use Rattle.ft12.specs.Borrowed.{owned}
use Rattle.link.specs.Turns.{StationState}
use Rattle.link.specs.Holding.{FitsStation}
use Rattle.link.proofs.Fitting.{set_fits, answered_fits}
use Rattle.link.proofs.master.Master.receive_for.Goals as goal

pub invariant_of-self-in-Some : goal.invariant_of-self-in-Some
invariant_of-self-in-Some c =
    let f = c.self.invariant.fits in
    let size = c.self.inside.settings.size in
    record {
      size = c.self.invariant.size;
      fits = record {
        turn = subst (λ (n : ℕ). c.self.inside.turn < n)
            (sym (length-set c.self.inside.stations.items c.self.inside.turn c.answer.new.self))
            f.turn;
        stations = set_fits size c.self.inside.stations.items c.self.inside.turn c.answer.new.self
            f.turn f.stations
            (subst (λ (s : StationState). FitsStation size s) (sym c.answer.ensures)
            (answered_fits size c.index_mut.result.now c.args.awaited.request (owned c.args.frame)
            c.in-Some.answer
            (subst (λ (s : StationState). FitsStation size s) (sym c.index_mut.ensures.value)
            (f.stations c.self.inside.turn c.index_mut.result.now f.turn))));
        outstanding = f.outstanding;
      };
    }
