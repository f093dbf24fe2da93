use Rattle.std.proofs.Common.{◌≡◌, drop}
use Rattle.toml.specs.View.{items_view}
use Rattle.settings.specs.SiteUnknown.{first_items}
use Rattle.settings.proofs.site.unknown.first_items.Given as goal

-- the first among the tables that are left is the first of all
abbrev pub invariant-loop-table : goal.invariant-loop-table
invariant-loop-table l = first_items (items_view (drop l.table-index l.tables))
    ≡ first_items (items_view l.tables)
