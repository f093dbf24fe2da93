-- The unknown keys, key by key and table by table.
use Rattle.std.proofs.Common.{◌≡◌, ℕ, ◌≤◌, List, length, drop, None, String}
use Rattle.std.proofs.Common.{Global, string_bytes, map}
use Rattle.std.proofs.lemmas.List.{drop_all}
use Rattle.std.specs.BTreeMap.{BTreeMap, keys}
use Rattle.toml.specs.View.{items_view, table_view}
use Rattle.toml.specs.declared.value.Value.{Value}
use Rattle.settings.specs.Unknown.{member_keys}
use Rattle.settings.specs.SiteUnknown.{first_items}
use Rattle.settings.proofs.UnknownLemmas.{keys_of_table as settings_keys}

pub keys_of_table : (m : BTreeMap (String Global) Value) → member_keys (table_view m)
    ≡ map string_bytes (keys m)
keys_of_table m = settings_keys m

pub items_end : (vs : List Value) (i : ℕ) → length vs ≤ i → first_items (items_view (drop i vs))
    ≡ None
items_end vs i le = rw (drop_all i vs le)
