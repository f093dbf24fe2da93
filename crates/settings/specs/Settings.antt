-- The settings of a whole file, up to the first wrong key; unknown keys are looked for after these
-- (this gateway's own profile). The keys and their values stand in `Line.antt`, `Tcp.antt`,
-- `Stations.antt` and `Live.antt`, in the order in which they are judged. A default is judged like
-- a given value. Where `line`, `tcp` or `live` is no table, its first key is wrong.
use Rattle.std.specs.Prelude.{◌≡◌, ℕ, Bool, true, false, codes, List, [], Some, None}
use Rattle.std.specs.Prelude.{Result, Ok, Err, IsOk, IsUtf8, MatchResult}
use Rattle.toml.specs.Data.{Members, get_member}
use Rattle.toml.specs.Parse.{parse_document}
use Rattle.gateway.specs.Config.{Settings}
use Rattle.gateway.specs.declared.settings.StationSettings.{StationSettings}
use Rattle.settings.specs.Faults.{Path, IsWrongKeyOf, ◌>>=◌}
use Rattle.settings.specs.Keys.{section_of}
use Rattle.settings.specs.Line.{Line, line_of, line_settings}
use Rattle.settings.specs.Live.{live_keys, live_places, Places, places_of}
use Rattle.settings.specs.declared.live.LiveSettings.{LiveSettings}
use Rattle.settings.specs.Stations.{stations_of}
use Rattle.settings.specs.Tcp.{Tcp, tcp_of, tcp_settings}
use Rattle.settings.specs.Unknown.{unknown_paths, IsLeastUnknown}
use Rattle.settings.specs.declared.fault.ConfigFault.{ConfigFault}
use Rattle.settings.specs.declared.fault.ConfigFault.TheVariants.{NotToml, Key, Unknown, NoMemory}

-- the values of a file
pub record Values : Type 0 where
  pub line : Line
  pub tcp : Tcp
  pub stations : List StationSettings

abbrev pub values_of : Settings → Values
values_of c = record { line = line_of c.line; tcp = tcp_of c.tcp; stations = c.stations }

-- the settings of a gateway that a file gives
abbrev pub gateway_values : Members → Result Values Path
gateway_values root = do
  lt ← section_of (codes "line") (codes "line.link") root
  l ← line_settings lt
  tt ← section_of (codes "tcp") (codes "tcp.k") root
  t ← tcp_settings tt
  s ← stations_of l.link l.sizes.ca (get_member (codes "station") root)
  Ok (record { line = l; tcp = t; stations = s })

-- the same, if the keys of the table `live` are texts, those left out that a file may not have
abbrev pub known_settings : Members → Result Values Path
known_settings root = do
  v ← gateway_values root
  vt ← section_of (codes "live") (codes "live.line") root
  _ ← live_keys vt
  Ok v

-- the same for a live run, which needs the places of its ends
abbrev pub known_live : Members → Result (Values × Places) Path
known_live root = do
  v ← gateway_values root
  vt ← section_of (codes "live") (codes "live.line") root
  places ← live_places vt
  Ok (v, places)

-- the settings of a live run, as values
abbrev pub live_values_of : Settings × LiveSettings → Values × Places
live_values_of c = (values_of c.0, places_of c.1)

-- what was read, if no key is wrong; else the first wrong key
abbrev pub IsKnownOf : {A V : Type 0} → Result V Path → (A → V) → Result A ConfigFault → Type 0
IsKnownOf known seen result = MatchResult result (λ c. known ≡ Ok (seen c)) (IsWrongKeyOf known)

-- a wrong key is the first; an unknown one is the least, if no key is wrong
abbrev pub IsFirstFault : {V : Type 0} → Result V Path → Members → ConfigFault → Type 0
IsFirstFault known root NotToml = ⊥
IsFirstFault known root (Key path) = known ≡ Err path.now
IsFirstFault known root (Unknown path) =
    IsOk known × IsLeastUnknown (unknown_paths root) (Unknown path)
IsFirstFault known root NoMemory = Unit {0}

-- what was read, if no key is wrong and none unknown; else the first fault
abbrev pub IsReadOf : {A V : Type 0} → Result V Path → (A → V) → Members →
    Result A ConfigFault → Type 0
IsReadOf known seen root result =
    MatchResult result
    (λ c. (known ≡ Ok (seen c)) × (unknown_paths root ≡ []))
    (IsFirstFault known root)

-- the octets are no text, or no TOML document
abbrev pub IsNoDocument : List ℕ → Type 0
IsNoDocument text = IsUtf8 text → parse_document text ≡ None

-- the octets are a document with this root
pub record IsDocument (text : List ℕ) (root : Members) : Type 0 where
  pub utf8 : IsUtf8 text
  pub parsed : parse_document text ≡ Some root

-- why octets have no root
abbrev pub IsRootFault : List ℕ → ConfigFault → Type 0
IsRootFault text NotToml = IsNoDocument text
IsRootFault text NoMemory = Unit {0}
IsRootFault text _ = ⊥

-- what a document's fault is
abbrev pub IsDocumentFault : {V : Type 0} → (Members → Result V Path) → List ℕ → ConfigFault →
    Type 0
IsDocumentFault known text e =
    (root : Members) × IsDocument text root × IsFirstFault (known root) root e

abbrev pub IsFaultOfText : {V : Type 0} → (Members → Result V Path) → List ℕ → ConfigFault → Type 0
IsFaultOfText known text NotToml = IsNoDocument text
IsFaultOfText known text (Key path) = IsDocumentFault known text (Key path)
IsFaultOfText known text (Unknown path) = IsDocumentFault known text (Unknown path)
IsFaultOfText known text NoMemory = Unit {0}

-- what is read from the document that the octets are, or the first fault
abbrev pub IsReadBy : {A V : Type 0} → (Members → Result V Path) → (A → V) → List ℕ →
    Result A ConfigFault → Type 0
IsReadBy known seen text result =
    MatchResult result
    (λ c. (root : Members) × IsDocument text root × (known root ≡ Ok (seen c))
    × (unknown_paths root ≡ []))
    (IsFaultOfText known text)

-- the settings of the document that the octets are, or the first fault
abbrev pub IsReadOfText : List ℕ → Result Settings ConfigFault → Type 0
IsReadOfText text result = IsReadBy known_settings values_of text result

-- the same for a live run, which has to know its ends
abbrev pub IsLiveReadOfText : List ℕ → Result (Settings × LiveSettings) ConfigFault → Type 0
IsLiveReadOfText text result = IsReadBy known_live live_values_of text result

-- the settings of a gateway, from a file that says where a live run finds its ends
abbrev pub known_with_ends : Members → Result Values Path
known_with_ends root = do
  both ← known_live root
  Ok both.0

-- what is read, by whether a live run's ends have to be there
abbrev pub IsReadFor : (live : Bool) → List ℕ → Result Settings ConfigFault → Type 0
IsReadFor false text result = IsReadOfText text result
IsReadFor true text result = IsReadBy known_with_ends values_of text result
