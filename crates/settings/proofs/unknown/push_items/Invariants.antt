use Rattle.std.proofs.Common.{◌≡◌, ◌++◌, map, drop, string_bytes}
use Rattle.toml.specs.View.{items_view}
use Rattle.settings.specs.Unknown.{unknown_items}
use Rattle.settings.proofs.unknown.push_items.Given as goal

-- the paths so far and those of the tables that are left are all of the list's
abbrev pub invariant-loop-table : goal.invariant-loop-table
invariant-loop-table l = map string_bytes l.paths.items
    ++ unknown_items (items_view (drop l.table-index l.tables))
    ≡ map string_bytes l.initial.paths.items ++ unknown_items (items_view l.tables)
