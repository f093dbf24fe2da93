use Rattle.std.proofs.Common.{◌≡◌, drop, length, []}
use Rattle.toml.specs.View.{items_view}
use Rattle.settings.proofs.StationLemmas.{AreGood}
use Rattle.settings.specs.Stations.{stations_from}
use Rattle.settings.proofs.stations.read_each.Given as goal

-- what the tables that are left give after the stations so far is what all tables give
abbrev pub invariant-loop-table : goal.invariant-loop-table
invariant-loop-table l = record {
  same : stations_from l.link l.ca l.stations.items (items_view (drop l.table-index l.tables))
      ≡ stations_from l.link l.ca [] (items_view l.tables);
  count : length l.stations.items ≡ l.table-index;
  good : AreGood l.link l.ca l.stations.items;
}
