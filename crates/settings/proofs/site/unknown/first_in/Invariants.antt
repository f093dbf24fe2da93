use Rattle.std.proofs.Common.{◌≡◌, map, string_bytes}
use Rattle.toml.specs.View.{table_view}
use Rattle.settings.specs.Unknown.{member_keys}
use Rattle.settings.specs.SiteUnknown.{first_in}
use Rattle.settings.proofs.site.unknown.first_in.Given as goal

-- the first among the keys that are left is the first of all
abbrev pub invariant-loop-key : goal.invariant-loop-key
invariant-loop-key l = first_in l.section (map string_bytes l.key-iterator)
    ≡ first_in l.section (member_keys (table_view l.table))
