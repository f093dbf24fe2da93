use Rattle.std.proofs.Common.{◌<◌, ℕ, sym, subst}
use Rattle.std.proofs.lemmas.List.{length-set}
use Rattle.link.specs.Turns.{StationState}
use Rattle.link.specs.Primary.{Primary}
use Rattle.link.specs.Requests.{FitsAsked}
use Rattle.link.specs.Holding.{FitsStation}
use Rattle.link.proofs.Fitting.{set_fits, unanswered_fits}
use Rattle.link.proofs.master.Master.miss.Goals as goal

pub invariant_of-self : goal.invariant_of-self
invariant_of-self c =
    let f = c.self.invariant.fits in
    let size = c.self.inside.settings.size in
    let asked : FitsAsked size c.args.awaited.now.request =
    subst (λ (p : Primary). FitsAsked p.settings.size c.args.awaited.now.request)
    (sym c.self.view_is) c.requires.fits in
    record {
      size = c.self.invariant.size;
      fits = record {
        turn = subst (λ (n : ℕ). c.self.inside.turn < n)
            (sym (length-set c.self.inside.stations.items c.self.inside.turn c.miss.new.self))
            f.turn;
        stations = set_fits size c.self.inside.stations.items c.self.inside.turn c.miss.new.self
            f.turn f.stations
            (subst (λ (s : StationState). FitsStation size s) (sym c.miss.ensures)
            (unanswered_fits c.self.inside.settings size c.index_mut.result.now
            c.args.awaited.now.request asked
            (subst (λ (s : StationState). FitsStation size s) (sym c.index_mut.ensures.value)
            (f.stations c.self.inside.turn c.index_mut.result.now f.turn))));
        outstanding = f.outstanding;
      };
    }
