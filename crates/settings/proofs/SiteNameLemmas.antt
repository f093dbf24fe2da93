-- The names of stations, item by item.
use Rattle.std.proofs.Common.{◌≡◌, ℕ, ◌<◌, ◌≤◌, List, [], ◌∷◌, length, drop, get_or, map}
use Rattle.std.proofs.Common.{Ok, Err, refl, ◌==◌}
use Rattle.std.proofs.lemmas.List.{drop_all}
use Rattle.std.specs.List.{list_any}
use Rattle.toml.specs.View.{view, items_view}
use Rattle.toml.specs.declared.value.Value.{Value}
use Rattle.toml.proofs.Views.{items_view-drop}
use Rattle.settings.specs.Faults.{Path}
use Rattle.settings.specs.SiteNames.{Named, named, named_of, stations_from}
use Rattle.settings.specs.declared.site.names.StationName.{StationName}

pub stations_from_wrong : (before : List Named) (vs : List Value) (i : ℕ) (d : Value) (f : Path)
    → i < length vs
    → named_of before (view (get_or vs i d)) ≡ Err f → stations_from before (items_view (drop i vs))
    ≡ Err f
stations_from_wrong before vs i d f lt e = rw (items_view-drop vs i d lt, e)

pub stations_from_end : (before : List Named) (vs : List Value) (i : ℕ) → length vs ≤ i
    → stations_from before (items_view (drop i vs)) ≡ Ok before
stations_from_end before vs i le = rw (drop_all i vs le)

-- a link address is among the names if it is among those that the code keeps
pub any_named : (link : ℕ) (stations : List StationName)
    → list_any (λ s. s.link == link) (map named stations) ≡ list_any (λ s. s.link == link) stations
any_named link [] = refl
any_named link (s ∷ ss) = rw (any_named link ss) refl
