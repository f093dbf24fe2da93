use Rattle.std.proofs.Common.{◌≡◌, ◌++◌, map, string_bytes}
use Rattle.toml.specs.View.{table_view}
use Rattle.settings.specs.Unknown.{unknown_in, member_keys}
use Rattle.settings.proofs.unknown.push_unknown.Given as goal

-- the paths so far and those of the keys that are left are all of the table's
abbrev pub invariant-loop-key : goal.invariant-loop-key
invariant-loop-key l = map string_bytes l.paths.items ++ unknown_in l.section
    (map string_bytes l.key-iterator)
    ≡ map string_bytes l.initial.paths.items
    ++ unknown_in l.section (member_keys (table_view l.table))
