use Rattle.std.proofs.Common.{◌≡◌, Ok, get_or, sym, ap, ◌∙◌, length-append}
use Rattle.toml.specs.View.{view}
use Rattle.settings.proofs.StationLemmas.{stations_from_next, good_more}
use Rattle.settings.specs.Stations.{IsNext, station_of}
use Rattle.settings.proofs.stations.read_each.Goals as goal

-- by hand, since the search takes long here
pub loop-table-preserved : goal.loop-table-preserved
loop-table-preserved c =
    let before : c.as_slice.result.now ≡ c.loop-table.stations.items = c.as_slice.ensures.value in
    let seen_so = rw before at c.in_ok-station.ensures.value in
    let here : station_of c.args.link c.args.ca c.loop-table.stations.items
    (view (get_or c.args.tables.now c.loop-table.table-index c.table-item.result))
    ≡ Ok c.in_ok-station.station =
    ap (λ v. station_of c.args.link c.args.ca c.loop-table.stations.items (view v))
    (sym c.table-item.is)
    ∙ sym seen_so in
    let next : IsNext c.args.link c.args.ca c.loop-table.stations.items c.in_ok-station.station =
    rw before at c.in_ok-station.ensures.next in
    record {
      same = rw c.in_ok-push.ensures.items
          (sym (stations_from_next c.args.link c.args.ca c.loop-table.stations.items
          c.args.tables.now
          c.loop-table.table-index c.table-item.result c.in_ok-station.station
          c.loop-table-test.true here)
          ∙ c.loop-table.invariant.same);
      count = rw (c.in_ok-push.ensures.items, length-append, c.loop-table.invariant.count);
      good = rw c.in_ok-push.ensures.items
          (good_more c.args.link c.args.ca c.loop-table.stations.items c.in_ok-station.station
          c.loop-table.invariant.good next);
    }
