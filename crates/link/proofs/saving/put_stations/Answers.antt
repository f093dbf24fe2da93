use Rattle.std.proofs.lemmas.List.{take_more}
use Rattle.link.specs.Turns.{StationState}
use Rattle.std.proofs.Common.{sym, ap, ◌∙◌, take, ◌++◌, ◌∷◌, []}
use Rattle.std.proofs.Common.{subst, List}
use Rattle.std.specs.List.{AllByRecursion}
use Rattle.link.specs.Saved.{FitsSavedStation}
use Rattle.link.proofs.Saved.{put_one_more, all_push}
use Rattle.link.proofs.saving.put_stations.Goals as goal

pub loop-station-preserved : goal.loop-station-preserved
loop-station-preserved g c =
    let more =
    (take_more c.args.stations.now c.loop-station.station-index c.station-item.result
    c.loop-station-test.true
    ∙ ap (λ (x : StationState). take c.loop-station.station-index c.args.stations.now ++ x ∷ [])
    (sym c.station-item.is)) in
    let P : List StationState → Type 0 = λ l. AllByRecursion FitsSavedStation l in (
      put_one_more _ _ c.args.stations.now c.loop-station.station-index c.station-item.result _
          c.loop-station.invariant.0 c.in_ok-put_station.ensures.lines more,
      subst P (sym more) (all_push (take c.loop-station.station-index c.args.stations.now)
          c.station-item.result
          c.loop-station.invariant.1 c.in_ok-put_station.ensures.fits),
    )
