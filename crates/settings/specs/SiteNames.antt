-- The names of stations (this gateway's own profile): each in its order, its link address before
-- its name, up to the first that is wrong.
use Rattle.std.specs.Prelude.{◌≡◌, ℕ, ◌+◌, codes, List, [], ◌∷◌, ◌++◌, ◌==◌, if◌then◌else◌, Option}
use Rattle.std.specs.Prelude.{Some}
use Rattle.std.specs.Prelude.{None, Result, Ok, Err, Vec, MatchResult, map, string_bytes}
use Rattle.std.specs.List.{list_any}
use Rattle.std.specs.declared.alloc.Global.{Global}
use Rattle.toml.specs.Data.{Data, Items, no_items, item, Members, as_array, as_table}
use Rattle.settings.specs.Faults.{Path, ◌>>=◌}
use Rattle.settings.specs.Keys.{row, whole_of}
use Rattle.settings.specs.SiteFaults.{IsWrongKeyOf}
use Rattle.settings.specs.SiteKeys.{text_of_key}
use Rattle.settings.specs.declared.site.fault.SiteFault.{SiteFault}
use Rattle.settings.specs.declared.site.keys.TextForm.TheVariants.{Name}
use Rattle.settings.specs.declared.site.names.StationName.{StationName}

-- a station's name, as a text
pub record Named : Type 0 where
  pub link : ℕ
  pub name : List ℕ

abbrev pub named : StationName → Named
named s = record { link = s.link; name = string_bytes s.name }

-- the link address, if no station before has it
abbrev pub link_of : List Named → Members → Result ℕ Path
link_of before t = do
  l ← whole_of (row (codes "link") (codes "station.link") 1 65534 None) (Some t)
  if list_any (λ s. s.link == l) before then Err (codes "station.link") else Ok l

abbrev pub needed : Path → Option (List ℕ) → Result (List ℕ) Path
needed path None = Err path
needed path (Some text) = Ok text

abbrev pub name_of : Members → Result (List ℕ) Path
name_of t =
    text_of_key Name (codes "name") (codes "station.name") (Some t)
    >>= needed (codes "station.name")

-- a station's name, after those before it; what is no table has a wrong first key
abbrev pub named_in : List Named → Option Members → Result Named Path
named_in before None = Err (codes "station.link")
named_in before (Some t) = do
  l ← link_of before t
  n ← name_of t
  Ok (record { link = l; name = n })

abbrev pub named_of : List Named → Data → Result Named Path
named_of before d = named_in before (as_table d)

-- the names before, and those of the items
abbrev pub stations_from : List Named → Items → Result (List Named) Path
stations_from before no_items = Ok before
stations_from before (item d ds) =
    named_of before d >>= (λ s. stations_from (before ++ s ∷ []) ds)

abbrev pub stations_in : Option Items → Result (List Named) Path
stations_in None = Err (codes "station")
stations_in (Some ds) = stations_from [] ds

-- the names of an array that may be missing
abbrev pub stations_of : Option Data → Result (List Named) Path
stations_of None = Ok []
stations_of (Some d) = stations_in (as_array d)

-- the name that was read is the expected one, and a fault is the expected wrong key or want of
-- memory
abbrev pub IsNamed : Result Named Path → Result StationName SiteFault → Type 0
IsNamed expected result = MatchResult result (λ s. expected ≡ Ok (named s)) (IsWrongKeyOf expected)

abbrev pub AreStations : Result (List Named) Path → Result (Vec StationName Global) SiteFault
    → Type 0
AreStations expected result =
    MatchResult result (λ v. expected ≡ Ok (map named v.items)) (IsWrongKeyOf expected)
