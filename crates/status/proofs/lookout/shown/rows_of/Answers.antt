use Rattle.std.proofs.Common.{List, ◌++◌, length, sym, subst, arith}
use Rattle.status.specs.declared.snapshot.StationView.{StationView}
use Rattle.status.specs.Shown.{AreRows}
use Rattle.status.proofs.Rows.{counted_more, is_full, none_of, not_full, one_more, over_counted}
use Rattle.status.proofs.Rows.{over_full, over_known, over_watched}
use Rattle.status.proofs.lookout.shown.rows_of.Goals as goal

pub loop-one-preserved : goal.loop-one-preserved
loop-one-preserved c = record {
  counted = counted_more c.loop-one.rows.items c.push.new.self.items c.station_of.result
      c.loop-one.one-index c.push.ensures.items c.loop-one.invariant.counted;
  goes = λ more rest.
      subst (λ (l : List StationView). AreRows 32 c.args.known.now c.args.watch.now.stations
      c.args.watch.now.traffic (l ++ more)) (sym c.push.ensures.items)
      (one_more c.args.known.now c.args.watch.now.stations c.args.watch.now.traffic
      c.loop-one.rows.items c.loop-one.one-index c.loop-one.stations.now c.loop-one.traffics.now
      c.loop-one.invariant.goes c.one-item.result c.in-Some.station.now c.in-Some.more_stations.now
      c.in-Some-split_first.traffic.now c.in-Some-split_first.more_traffics.now c.station_of.result
      (omega arith) (not_full (length c.loop-one.rows.items) c.loop-one.one-index
      c.if-is_full.ensures.value c.if-is_full.ensures.fits c.loop-one.invariant.counted)
      c.one-item.is c.in-Some.ensures.cases.0 c.in-Some-split_first.ensures.cases.0
      c.station_of.ensures more rest);
}

pub returns-after-loop-one : goal.returns-after-loop-one
returns-after-loop-one c =
    over_known c.args.known.now c.args.watch.now.stations c.args.watch.now.traffic
    c.loop-one.rows.items c.loop-one.one-index c.loop-one.stations.now c.loop-one.traffics.now
    c.loop-one.invariant.goes (omega arith)

pub returns-in_default : goal.returns-in_default
returns-in_default c =
    over_watched c.args.known.now c.args.watch.now.stations c.args.watch.now.traffic
    c.loop-one.rows.items c.loop-one.one-index c.loop-one.stations.now c.loop-one.traffics.now
    c.loop-one.invariant.goes (none_of c.loop-one.stations.now c.in_default.ensures.cases)

pub returns-in_default-split_first : goal.returns-in_default-split_first
returns-in_default-split_first c =
    over_counted c.args.known.now c.args.watch.now.stations c.args.watch.now.traffic
    c.loop-one.rows.items c.loop-one.one-index c.loop-one.stations.now c.loop-one.traffics.now
    c.loop-one.invariant.goes
    (none_of c.loop-one.traffics.now c.in_default-split_first.ensures.cases)

pub returns-then-is_full : goal.returns-then-is_full
returns-then-is_full c =
    over_full c.args.known.now c.args.watch.now.stations c.args.watch.now.traffic
    c.loop-one.rows.items c.loop-one.one-index c.loop-one.stations.now c.loop-one.traffics.now
    c.loop-one.invariant.goes
    (is_full (length c.loop-one.rows.items) c.loop-one.one-index c.if-is_full.ensures.value
    c.loop-one.invariant.counted)
