-- The keys that the settings don't know, by their dotted paths (this gateway's own profile).
use Rattle.std.specs.Prelude.{◌≡◌, ℕ, codes, List, [], ◌∷◌, ◌++◌, Bool, false, ◌||◌, if◌then◌else◌}
use Rattle.std.specs.Prelude.{Option, Some, None, Result, MatchResult, Contains, All, string_bytes}
use Rattle.std.specs.Ordering.{nat_cmp, is_lt}
use Rattle.std.specs.Cmp.Lexicographic.{slice_cmp}
use Rattle.std.specs.Str.{bytes_eq}
use Rattle.toml.specs.Data.{Data, Items, no_items, item, Members, no_members, member, get_member}
use Rattle.toml.specs.Data.{as_table, as_array}
use Rattle.settings.specs.declared.fault.ConfigFault.{ConfigFault}
use Rattle.settings.specs.declared.fault.ConfigFault.TheVariants.{NotToml, Key, Unknown, NoMemory}
use Rattle.settings.specs.declared.unknown.SettingsTable.{SettingsTable}
use Rattle.settings.specs.declared.unknown.SettingsTable.TheVariants.{Root, Line, Tcp, Station}
use Rattle.settings.specs.declared.unknown.SettingsTable.TheVariants.{Live}

-- the keys of sizes that the table `line` may have
abbrev pub knows_size : List ℕ → Bool
knows_size k =
    bytes_eq k (codes "link") || bytes_eq k (codes "cause")
    || bytes_eq k (codes "ca") || bytes_eq k (codes "ioa")

-- the keys that the table `line` may have
abbrev pub knows_line : List ℕ → Bool
knows_line k =
    knows_size k || bytes_eq k (codes "answer_ms") || bytes_eq k (codes "retries")
    || bytes_eq k (codes "silence")
    || bytes_eq k (codes "burst") || bytes_eq k (codes "queue")

-- the keys that a table may have
abbrev pub knows : SettingsTable → List ℕ → Bool
knows Root k =
    bytes_eq k (codes "line") || bytes_eq k (codes "tcp")
    || bytes_eq k (codes "station") || bytes_eq k (codes "live")
knows Line k = knows_line k
knows Tcp k =
    bytes_eq k (codes "k") || bytes_eq k (codes "w")
    || bytes_eq k (codes "t1_ms") || bytes_eq k (codes "t2_ms")
    || bytes_eq k (codes "t3_ms") || bytes_eq k (codes "select_ms")
    || bytes_eq k (codes "max_age_ms")
knows Station k =
    bytes_eq k (codes "address") || bytes_eq k (codes "ca") || bytes_eq k (codes "select")
knows Live k = bytes_eq k (codes "line") || bytes_eq k (codes "listen")

-- what stands before such a key in its dotted path
abbrev pub prefix : SettingsTable → List ℕ
prefix Root = []
prefix Line = codes "line."
prefix Tcp = codes "tcp."
prefix Station = codes "station."
prefix Live = codes "live."

abbrev pub member_keys : Members → List (List ℕ)
member_keys no_members = []
member_keys (member k d ms) = k ∷ member_keys ms

-- the dotted paths of those keys that a table may not have
abbrev pub unknown_in : SettingsTable → List (List ℕ) → List (List ℕ)
unknown_in s [] = []
unknown_in s (k ∷ ks) = if knows s k then unknown_in s ks else ((prefix s ++ k) ∷ unknown_in s ks)

-- of a value that may be a table
abbrev pub unknown_table : SettingsTable → Option Members → List (List ℕ)
unknown_table s None = []
unknown_table s (Some t) = unknown_in s (member_keys t)

abbrev pub unknown_of : SettingsTable → Data → List (List ℕ)
unknown_of s d = unknown_table s (as_table d)

abbrev pub unknown_under : SettingsTable → Option Data → List (List ℕ)
unknown_under s None = []
unknown_under s (Some d) = unknown_of s d

abbrev pub unknown_items : Items → List (List ℕ)
unknown_items no_items = []
unknown_items (item d ds) = unknown_of Station d ++ unknown_items ds

abbrev pub unknown_array : Option Items → List (List ℕ)
unknown_array None = []
unknown_array (Some ds) = unknown_items ds

abbrev pub unknown_list : Option Data → List (List ℕ)
unknown_list None = []
unknown_list (Some d) = unknown_array (as_array d)

abbrev pub unknown_stations : Members → List (List ℕ)
unknown_stations root = unknown_list (get_member (codes "station") root)

-- all of a file
abbrev pub unknown_paths : Members → List (List ℕ)
unknown_paths root =
    unknown_in Root (member_keys root) ++ unknown_under Line (get_member (codes "line") root)
    ++ unknown_under Tcp (get_member (codes "tcp") root) ++ unknown_stations root
    ++ unknown_under Live (get_member (codes "live") root)

-- one of the paths, and none is before it in the order of octets
pub record IsLeastOf (paths : List (List ℕ)) (path : List ℕ) : Type 0 where
  pub among : Contains paths path
  pub least : All (λ p. is_lt (slice_cmp nat_cmp p path) ≡ false) paths

-- the least unknown path is refused, or want of memory
abbrev pub IsLeastUnknown : List (List ℕ) → ConfigFault → Type 0
IsLeastUnknown paths NotToml = ⊥
IsLeastUnknown paths (Key path) = ⊥
IsLeastUnknown paths (Unknown path) = IsLeastOf paths (string_bytes path)
IsLeastUnknown paths NoMemory = Unit {0}

abbrev pub IsRefusedFor : {A : Type 0} → List (List ℕ) → Result A ConfigFault → Type 0
IsRefusedFor paths result = MatchResult result (λ _. paths ≡ []) (IsLeastUnknown paths)
