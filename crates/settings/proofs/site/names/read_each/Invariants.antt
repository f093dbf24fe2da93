use Rattle.std.proofs.Common.{◌≡◌, drop, map, []}
use Rattle.toml.specs.View.{items_view}
use Rattle.settings.specs.SiteNames.{named, stations_from}
use Rattle.settings.proofs.site.names.read_each.Given as goal

-- what the tables that are left give after the names so far is what all tables give
abbrev pub invariant-loop-table : goal.invariant-loop-table
invariant-loop-table l =
    stations_from (map named l.stations.items) (items_view (drop l.table-index l.tables))
    ≡ stations_from [] (items_view l.tables)
