-- The keys that a site's file may not have, by their dotted paths (this gateway's own profile).
use Rattle.std.specs.Prelude.{ℕ, codes, List, [], ◌∷◌, ◌++◌, Bool, ◌||◌, if◌then◌else◌, Option}
use Rattle.std.specs.Prelude.{Some, None}
use Rattle.std.specs.Str.{bytes_eq}
use Rattle.toml.specs.Data.{Data, Items, no_items, item, Members, get_member, as_table, as_array}
use Rattle.settings.specs.Unknown.{member_keys}
use Rattle.settings.specs.declared.site.unknown.SiteTable.{SiteTable}
use Rattle.settings.specs.declared.site.unknown.SiteTable.TheVariants.{Root, Line, Station}

-- what a run is to do
abbrev pub knows_wish : List ℕ → Bool
knows_wish k =
    bytes_eq k (codes "allow") || bytes_eq k (codes "status") || bytes_eq k (codes "state")
    || bytes_eq k (codes "state_or_stop") || bytes_eq k (codes "log")
    || bytes_eq k (codes "log_severity") || bytes_eq k (codes "redial")
    || bytes_eq k (codes "record")

-- the keys that a table may have
abbrev pub knows : SiteTable → List ℕ → Bool
knows Root k = knows_wish k || (bytes_eq k (codes "line") || bytes_eq k (codes "station"))
knows Line k = bytes_eq k (codes "name")
knows Station k = bytes_eq k (codes "link") || bytes_eq k (codes "name")

-- what stands before such a key in its dotted path
abbrev pub prefix : SiteTable → List ℕ
prefix Root = []
prefix Line = codes "line."
prefix Station = codes "station."

-- the first, or the second if there is none
abbrev pub or_else : Option (List ℕ) → Option (List ℕ) → Option (List ℕ)
or_else (Some path) other = Some path
or_else None other = other

-- the dotted path of the first of these keys that a table may not have
abbrev pub first_in : SiteTable → List (List ℕ) → Option (List ℕ)
first_in s [] = None
first_in s (k ∷ ks) = if knows s k then first_in s ks else Some (prefix s ++ k)

abbrev pub first_table : SiteTable → Option Members → Option (List ℕ)
first_table s None = None
first_table s (Some t) = first_in s (member_keys t)

abbrev pub first_of : SiteTable → Data → Option (List ℕ)
first_of s d = first_table s (as_table d)

abbrev pub first_under : SiteTable → Option Data → Option (List ℕ)
first_under s None = None
first_under s (Some d) = first_of s d

abbrev pub first_items : Items → Option (List ℕ)
first_items no_items = None
first_items (item d ds) = or_else (first_of Station d) (first_items ds)

abbrev pub first_array : Option Items → Option (List ℕ)
first_array None = None
first_array (Some ds) = first_items ds

abbrev pub first_list : Option Data → Option (List ℕ)
first_list None = None
first_list (Some d) = first_array (as_array d)

-- the first of a file
abbrev pub unknown_key : Members → Option (List ℕ)
unknown_key root = or_else (first_in Root (member_keys root))
    (or_else (first_under Line (get_member (codes "line") root))
    (first_list (get_member (codes "station") root)))
