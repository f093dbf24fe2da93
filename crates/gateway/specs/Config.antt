-- The settings of a gateway, and the rules for its stations (profile).
use Rattle.std.specs.Prelude.{◌≢◌, ◌≤◌, List, [], ◌∷◌, length}
use Rattle.std.specs.List.{AllByRecursion}
use Rattle.ft12.specs.declared.frame.LinkSize.{LinkSize}
use Rattle.asdu.specs.declared.sizes.CaSize.{CaSize}
use Rattle.gateway.specs.declared.settings.LineSettings.{LineSettings}
use Rattle.gateway.specs.declared.settings.TcpSettings.{TcpSettings}
use Rattle.gateway.specs.declared.settings.StationSettings.{StationSettings}
use Rattle.gateway.specs.Settings.{IsLinkAddress, IsCommonAddress}

pub record Settings : Type 0 where
  pub line : LineSettings
  pub tcp : TcpSettings
  pub stations : List StationSettings

-- the station has addresses that it can have
pub record IsStation (link : LinkSize) (ca : CaSize) (s : StationSettings) : Type 0 where
  pub address : IsLinkAddress link s.address
  pub common : IsCommonAddress ca s.ca

-- the other station has other addresses
abbrev pub AreApart : StationSettings → StationSettings → Type 0
AreApart s t = (s.address ≢ t.address) × (s.ca ≢ t.ca)

-- each two of them have other addresses
abbrev pub AreDistinct : List StationSettings → Type 0
AreDistinct [] = Unit {0}
AreDistinct (s ∷ stations) = AllByRecursion (AreApart s) stations × AreDistinct stations

pub record AreStations (link : LinkSize) (ca : CaSize) (stations : List StationSettings) : Type
    0 where
  pub some : 1 ≤ length stations
  pub most : length stations ≤ 32
  pub each : AllByRecursion (IsStation link ca) stations
  pub distinct : AreDistinct stations
