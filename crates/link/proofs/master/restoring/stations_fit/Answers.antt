use Rattle.std.proofs.Common.{subst, refl, List}
use Rattle.std.specs.List.{All}
use Rattle.std.proofs.lemmas.List.{take_all}
use Rattle.std.proofs.lemmas.List.Elements.{All-more}
use Rattle.link.specs.Turns.{StationState}
use Rattle.link.specs.Holding.{FitsStation}
use Rattle.link.proofs.master.restoring.stations_fit.Goals as goal

pub loop-station-preserved : goal.loop-station-preserved
loop-station-preserved c =
    let P : StationState → Type 0 = λ s. FitsStation c.args.size s in
    All-more P c.args.stations.now c.loop-station.station-index c.station-item.result
    c.loop-station-test.true
    c.loop-station.invariant
    (subst P c.station-item.is (c.station_fits.ensures.0 c.if-not-station_fits.false))

pub returns : goal.returns
returns c =
    let P : List StationState → Type 0 = λ l. All (λ s. FitsStation c.args.size s) l in (
      λ h. subst P (take_all c.loop-station.station-index c.args.stations.now
          c.loop-station-test.false) c.loop-station.invariant,
      λ h. refl,
    )
