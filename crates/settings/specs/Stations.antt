-- The list of stations (this gateway's own profile): each in its order, its keys one before the
-- next, up to the first that is wrong.
use Rattle.std.specs.Prelude.{◌≡◌, ◌+◌, ℕ, false, codes, List, [], ◌∷◌, ◌++◌, Bool, ◌==◌}
use Rattle.std.specs.Prelude.{if◌then◌else◌}
use Rattle.std.specs.Prelude.{nat_lt, nat_le, ◌&&◌, suc, Option, Some, None, Result, Ok, Err, Vec}
use Rattle.std.specs.Prelude.{MatchResult}
use Rattle.std.specs.List.{list_any}
use Rattle.std.specs.declared.alloc.Global.{Global}
use Rattle.toml.specs.Data.{Data, Items, no_items, item, Members, as_array, as_table}
use Rattle.ft12.specs.declared.frame.LinkSize.{LinkSize}
use Rattle.ft12.specs.declared.frame.LinkSize.TheVariants as link
use Rattle.asdu.specs.declared.sizes.CaSize.{CaSize}
use Rattle.asdu.specs.declared.sizes.CaSize.TheVariants as ca
use Rattle.settings.specs.Faults.{Path, IsWrongKeyOf, ◌>>=◌}
use Rattle.settings.specs.Keys.{Row, row, whole_of, flag_of}
use Rattle.settings.specs.declared.fault.ConfigFault.{ConfigFault}
use Rattle.gateway.specs.Config.{IsStation}
use Rattle.gateway.specs.declared.settings.StationSettings.{StationSettings}

-- the greatest link address, by its size: the broadcast address is none (IEC 60870-5-2, 3.3)
abbrev pub greatest_address : LinkSize → ℕ
greatest_address link.One = 254
greatest_address link.Two = 65534

-- the greatest common address, by its size: the global address is none (IEC 60870-5-101, 7.2.4)
abbrev pub greatest_ca : CaSize → ℕ
greatest_ca ca.One = 254
greatest_ca ca.Two = 65534

-- the number, if no station before has it
abbrev pub distinct_number : ℕ → Bool → Path → Result ℕ Path
distinct_number n taken path = if taken then Err path else Ok n

abbrev pub address_row : LinkSize → Row
address_row size = row (codes "address") (codes "station.address") 1 (greatest_address size) None

abbrev pub ca_row : CaSize → Row
ca_row size = row (codes "ca") (codes "station.ca") 1 (greatest_ca size) None

abbrev pub address_of : LinkSize → List StationSettings → Members → Result ℕ Path
address_of size before t =
    whole_of (address_row size) (Some t)
    >>= (λ a. distinct_number a (list_any (λ s. s.address == a) before) (codes "station.address"))

abbrev pub ca_of : CaSize → List StationSettings → Members → Result ℕ Path
ca_of size before t =
    whole_of (ca_row size) (Some t)
    >>= (λ c. distinct_number c (list_any (λ s. s.ca == c) before) (codes "station.ca"))

-- a station, after those before it; what is no table has a wrong first key
abbrev pub station_in : LinkSize → CaSize → List StationSettings → Option Members
    → Result StationSettings Path
station_in link ca before None = Err (codes "station.address")
station_in link ca before (Some t) = do
  a ← address_of link before t
  c ← ca_of ca before t
  s ← flag_of (codes "select") (codes "station.select") (Some t)
  Ok (record { address = a; ca = c; select = s })

abbrev pub station_of : LinkSize → CaSize → List StationSettings → Data
    → Result StationSettings Path
station_of link ca before d = station_in link ca before (as_table d)

-- the stations before, and those of the items
abbrev pub stations_from : LinkSize → CaSize → List StationSettings → Items
    → Result (List StationSettings) Path
stations_from link ca before no_items = Ok before
stations_from link ca before (item d ds) =
    station_of link ca before d >>= (λ s. stations_from link ca (before ++ s ∷ []) ds)

abbrev pub count_of : Items → ℕ
count_of no_items = 0
count_of (item d ds) = suc (count_of ds)

-- an array of 1 to 32 stations
abbrev pub stations_in : LinkSize → CaSize → Option Items → Result (List StationSettings) Path
stations_in link ca None = Err (codes "station")
stations_in link ca (Some ds) =
    if nat_lt 0 (count_of ds) && nat_le (count_of ds) 32
    then stations_from link ca [] ds
    else Err (codes "station")

abbrev pub stations_of : LinkSize → CaSize → Option Data → Result (List StationSettings) Path
stations_of link ca None = Err (codes "station")
stations_of link ca (Some d) = stations_in link ca (as_array d)

-- the list that was read is the expected one, and a fault is the expected wrong key or want of
-- memory
abbrev pub IsAsExpected : Result (List StationSettings) Path →
    Result (Vec StationSettings Global) ConfigFault → Type 0
IsAsExpected expected result =
    MatchResult result (λ v. expected ≡ Ok v.items) (IsWrongKeyOf expected)

-- the station can follow the others: it has addresses that it can have, and none that one of them
-- has
pub record IsNext (link : LinkSize) (ca : CaSize) (others : List StationSettings)
    (s : StationSettings)
    : Type 0 where
  pub station : IsStation link ca s
  pub new_address : list_any (λ o. o.address == s.address) others ≡ false
  pub new_ca : list_any (λ o. o.ca == s.ca) others ≡ false
