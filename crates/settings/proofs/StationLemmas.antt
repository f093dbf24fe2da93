-- The list of stations, item by item.
use Rattle.std.proofs.Common.{◌≡◌, ℕ, ◌+◌, ◌<◌, ◌≤◌, ◌==◌, false, suc, List, [], ◌∷◌, ◌++◌, length}
use Rattle.std.proofs.Common.{drop, get_or, Ok, Err, refl, ap}
use Rattle.std.proofs.lemmas.Bool.{or_parts, eqb-false}
use Rattle.std.proofs.lemmas.List.{drop_all}
use Rattle.std.specs.List.{list_any, AllByRecursion}
use Rattle.toml.specs.View.{view, items_view}
use Rattle.toml.specs.declared.value.Value.{Value}
use Rattle.toml.proofs.Views.{items_view-drop}
use Rattle.ft12.specs.declared.frame.LinkSize.{LinkSize}
use Rattle.asdu.specs.declared.sizes.CaSize.{CaSize}
use Rattle.settings.specs.Faults.{Path}
use Rattle.gateway.specs.Config.{AreApart, AreDistinct, IsStation}
use Rattle.settings.specs.Stations.{IsNext, count_of, station_of, stations_from}
use Rattle.gateway.specs.declared.settings.StationSettings.{StationSettings}

pub count_of_view : (vs : List Value) → count_of (items_view vs) ≡ length vs
count_of_view [] = refl
count_of_view (v ∷ vs) = ap (λ n. suc n) (count_of_view vs)

pub stations_from_wrong : (link : LinkSize) (ca : CaSize) (before : List StationSettings)
    (vs : List Value)
    (i : ℕ) (d : Value)
    (f : Path) → i < length vs → station_of link ca before (view (get_or vs i d)) ≡ Err f
    → stations_from link ca before (items_view (drop i vs)) ≡ Err f
stations_from_wrong link ca before vs i d f lt e = rw (items_view-drop vs i d lt, e)

pub stations_from_next : (link : LinkSize) (ca : CaSize) (before : List StationSettings)
    (vs : List Value)
    (i : ℕ) (d : Value)
    (s : StationSettings) → i < length vs → station_of link ca before (view (get_or vs i d)) ≡ Ok s
    → stations_from link ca before (items_view (drop i vs))
    ≡ stations_from link ca (before ++ s ∷ []) (items_view (drop (i + 1) vs))
stations_from_next link ca before vs i d s lt e = rw (items_view-drop vs i d lt, e)

pub stations_from_end : (link : LinkSize) (ca : CaSize) (before : List StationSettings)
    (vs : List Value)
    (i : ℕ)
    → length vs ≤ i → stations_from link ca before (items_view (drop i vs)) ≡ Ok before
stations_from_end link ca before vs i le = rw (drop_all i vs le)

-- one more at the end, of which P holds
all_more : {X : Type 0} (P : X → Type 0) (xs : List X) (x : X) → AllByRecursion P xs → P x
    → AllByRecursion P (xs ++ x ∷ [])
all_more P [] x all here = (here, tt)
all_more P (y ∷ ys) x all here = (all.0, all_more P ys x all.1 here)

-- the station has other addresses than each of the others
all_apart : (xs : List StationSettings) (x : StationSettings)
    → list_any (λ s. s.address == x.address) xs ≡ false
    → list_any (λ s. s.ca == x.ca) xs ≡ false → AllByRecursion (λ s. AreApart s x) xs
all_apart [] x a c = tt
all_apart (y ∷ ys) x a c =
    let (here_a, more_a) =
    or_parts (y.address == x.address) (list_any (λ s. s.address == x.address) ys) a in
    let (here_c, more_c) = or_parts (y.ca == x.ca) (list_any (λ s. s.ca == x.ca) ys) c in (
      (eqb-false y.address x.address here_a, eqb-false y.ca x.ca here_c),
      all_apart ys x more_a
          more_c,
    )

distinct_more : (xs : List StationSettings) (x : StationSettings) → AreDistinct xs
    → AllByRecursion (λ s. AreApart s x) xs
    → AreDistinct (xs ++ x ∷ [])
distinct_more [] x apart new = (tt, tt)
distinct_more (y ∷ ys) x apart new =
    (all_more (AreApart y) ys x apart.0 new.0, distinct_more ys x apart.1 new.1)

-- each can stand in a list, and no two have one address
pub record AreGood (link : LinkSize) (ca : CaSize) (stations : List StationSettings) : Type 0 where
  pub each : AllByRecursion (IsStation link ca) stations
  pub distinct : AreDistinct stations

pub none_good : (link : LinkSize) (ca : CaSize) (stations : List StationSettings) → stations ≡ []
    → AreGood link ca stations
none_good link ca stations e = rw e (record { each = tt; distinct = tt })

-- one more station that can follow
pub good_more : (link : LinkSize) (ca : CaSize) (before : List StationSettings)
    (s : StationSettings)
    → AreGood link ca before
    → IsNext link ca before s → AreGood link ca (before ++ s ∷ [])
good_more link ca before s good next = record {
  each = all_more (IsStation link ca) before s good.each next.station;
  distinct = distinct_more before s good.distinct (all_apart before s next.new_address next.new_ca);
}
