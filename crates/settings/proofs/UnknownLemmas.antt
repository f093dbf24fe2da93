-- The unknown keys, key by key and table by table.
use Rattle.std.proofs.Common.{◌≡◌, ℕ, ◌+◌, ◌<◌, ◌≤◌, List, [], ◌∷◌, ◌++◌, length, drop, get_or}
use Rattle.std.proofs.Common.{true, false, String, Global, string_bytes, map, refl, ap, sym, ◌∙◌}
use Rattle.std.proofs.Common.{append_assoc}
use Rattle.std.proofs.lemmas.List.{map-append, drop_all, get_or-map, length-map}
use Rattle.std.specs.BTreeMap.{BTreeMap, keys}
use Rattle.std.specs.Map.{keys_of}
use Rattle.toml.specs.View.{view, items_view, table_view, members_view}
use Rattle.toml.specs.declared.value.Value.{Value}
use Rattle.toml.proofs.Views.{items_view-drop}
use Rattle.std.specs.Prelude.{Contains, All}
use Rattle.std.specs.Ordering.{is_lt}
use Rattle.std.specs.String.{string_cmp}
use Rattle.settings.specs.Unknown.{knows, prefix, member_keys, unknown_in, unknown_of}
use Rattle.settings.specs.Unknown.{unknown_items, IsLeastOf}
use Rattle.settings.specs.declared.unknown.SettingsTable.{SettingsTable}
use Rattle.settings.specs.declared.unknown.SettingsTable.TheVariants.{Station}

pub step_known : (s : SettingsTable) (k : String Global) (before ks it : List (String Global))
    (all : List (List ℕ))
    → it ≡ k ∷ ks → knows s (string_bytes k) ≡ true
    → map string_bytes before ++ unknown_in s (map string_bytes it)
    ≡ all → map string_bytes before ++ unknown_in s (map string_bytes ks) ≡ all
step_known s k before ks it all e known_so h = let g = rw e at h in rw known_so at g

pub step_new : (s : SettingsTable) (k path : String Global) (before ks it : List (String Global))
    (all : List (List ℕ))
    → it ≡ k ∷ ks → knows s (string_bytes k) ≡ false → string_bytes path
    ≡ prefix s ++ string_bytes k
    → map string_bytes before ++ unknown_in s (map string_bytes it) ≡ all
    → map string_bytes (before ++ path ∷ []) ++ unknown_in s (map string_bytes ks) ≡ all
step_new s k path before ks it all e unknown_so text h = let g = rw e at h in
    let g2 = rw unknown_so at g in
    rw (map-append, append_assoc, text) g2

keys_of_view : (es : List (String Global × Value)) → member_keys (members_view es)
    ≡ map string_bytes (keys_of es)
keys_of_view [] = refl
keys_of_view (e ∷ es) = ap (λ ks. string_bytes e.0 ∷ ks) (keys_of_view es)

pub keys_of_table : (m : BTreeMap (String Global) Value) → member_keys (table_view m)
    ≡ map string_bytes (keys m)
keys_of_table m = keys_of_view m.entries

items_next : (vs : List Value) (i : ℕ) (d : Value) → i < length vs
    → unknown_items (items_view (drop i vs)) ≡ unknown_of Station (view (get_or vs i d))
    ++ unknown_items (items_view (drop (i + 1) vs))
items_next vs i d lt = rw (items_view-drop vs i d lt)

-- what one more table's unknown keys, put behind those so far, leave to be put there
pub step_items : (before after : List (String Global)) (vs : List Value) (i : ℕ) (d : Value)
    (all : List (List ℕ))
    → i < length vs → d ≡ get_or vs i d
    → map string_bytes after ≡ map string_bytes before ++ unknown_of Station (view d)
    → map string_bytes before ++ unknown_items (items_view (drop i vs)) ≡ all
    → map string_bytes after ++ unknown_items (items_view (drop (i + 1) vs)) ≡ all
step_items before after vs i d all lt here pushed h =
    let next : unknown_items (items_view (drop i vs)) ≡ unknown_of Station (view d)
    ++ unknown_items (items_view (drop (i + 1) vs)) = items_next vs i d lt
    ∙ ap (λ v. unknown_of Station (view v) ++ unknown_items (items_view (drop (i + 1) vs)))
    (sym here) in
    let g = rw next at h in
    rw (pushed, append_assoc) g

pub items_end : (vs : List Value) (i : ℕ) → length vs ≤ i → unknown_items (items_view (drop i vs))
    ≡ []
items_end vs i le = rw (drop_all i vs le)

least_seen : (paths : List (String Global)) (path : String Global) → Contains paths path
    → All (λ x. is_lt (string_cmp x path) ≡ false) paths
    → IsLeastOf (map string_bytes paths) (string_bytes path)
least_seen paths path (k, lt, e) least = record {
  among = (
    k,
    rw (length-map paths string_bytes) lt,
    get_or-map string_bytes paths k path (string_bytes path) lt
        ∙ ap string_bytes e,
  );
  least = λ j d below.
      let within : j < length paths = rw (length-map paths string_bytes) at below in
      let same = get_or-map string_bytes paths j path d within in
      rw same (least j path within);
}

-- the least of the texts is the least of the paths that they are
pub least_of : (paths : List (String Global)) (path : String Global) (all : List (List ℕ))
    → map string_bytes paths ≡ all → Contains paths path
    → All (λ x. is_lt (string_cmp x path) ≡ false) paths
    → IsLeastOf all (string_bytes path)
least_of paths path all same among least = rw (← same) (least_seen paths path among least)

pub none_of : (paths : List (String Global)) (all : List (List ℕ)) → map string_bytes paths ≡ all
    → paths ≡ []
    → all ≡ []
none_of paths all same none = rw (← same) (ap (map string_bytes) none)
