use Rattle.std.proofs.Common.{◌≡◌, List, ℕ, map, length, sym, ap, subst, ◌∙◌, ◌<◌}
use Rattle.std.proofs.lemmas.List.{take_all}
use Rattle.link.specs.Turns.{StationState}
use Rattle.link.specs.Primary.{station_down}
use Rattle.link.proofs.Fitting.{FitStations, down_fits, length-down}
use Rattle.link.proofs.master.Master.new.Goals as goal

pub invariant_of-result : goal.invariant_of-result
invariant_of-result c =
    let all : c.loop-address.stations.items ≡ map station_down c.args.addresses.now =
    c.loop-address.invariant ∙ ap (λ (xs : List ℕ). map station_down xs)
    (take_all c.loop-address.address-index c.args.addresses.now c.loop-address-test.false) in
    record {
      size = c.new.ensures.size;
      fits = record {
        turn = subst (λ (ss : List StationState). 0 < length ss) (sym all)
            (subst (λ (n : ℕ). 0 < n) (sym (length-down c.args.addresses.now)) c.requires.some);
        stations = subst (λ (ss : List StationState). FitStations c.args.settings.size ss) (sym all)
            (down_fits c.args.settings.size c.args.addresses.now c.requires.fit);
        outstanding = tt;
      };
    }
