use Rattle.std.proofs.Common.{◌<◌, ℕ, sym, subst, length}
use Rattle.std.proofs.lemmas.List.{length-set}
use Rattle.link.specs.Turns.{StationState}
use Rattle.link.specs.Primary.{Primary}
use Rattle.link.specs.Holding.{FitsStation}
use Rattle.link.specs.Carried.{station_given_up}
use Rattle.link.proofs.Fitting.{set_fits}
use Rattle.link.proofs.master.Master.give_up.Goals as goal

pub invariant_of-self-else-self-station : goal.invariant_of-self-else-self-station
invariant_of-self-else-self-station c =
    let f = c.self.invariant.fits in
    let size = c.self.inside.settings.size in
    let ss = c.self.inside.stations.items in
    let s : StationState = station_given_up c.index_mut.result.now in
    let within = subst (λ (p : Primary). c.args.station < length p.stations) (sym c.self.view_is)
    c.requires in
    let there = subst (λ (s : StationState). FitsStation size s) (sym c.index_mut.ensures.value)
    (f.stations c.args.station c.index_mut.result.now within) in
    record {
      size = c.self.invariant.size;
      fits = record {
        turn = subst (λ (n : ℕ). c.self.inside.turn < n) (sym (length-set ss c.args.station s))
            f.turn;
        stations = set_fits size ss c.args.station s within f.stations
            (record { address = there.address; link = tt });
        outstanding = f.outstanding;
      };
    }
