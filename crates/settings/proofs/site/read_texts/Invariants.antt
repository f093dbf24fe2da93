use Rattle.std.proofs.Common.{◌≡◌, drop, map, [], string_bytes}
use Rattle.toml.specs.View.{items_view}
use Rattle.settings.specs.Site.{texts_from}
use Rattle.settings.proofs.site.read_texts.Given as goal

-- what the items that are left give behind the texts so far is what all items give
abbrev pub invariant-loop-item : goal.invariant-loop-item
invariant-loop-item l = texts_from (map string_bytes l.texts.items)
    (items_view (drop l.item-index l.items))
    ≡ texts_from [] (items_view l.items)
