-- What goes on over a change of settings (profile).
use Rattle.std.specs.Prelude.{◌≡◌, ℕ, true, Bool, Some, slice_get}
use Rattle.ft12.specs.Spelling.{address_len}
use Rattle.asdu.specs.Sizes.{cause_len, ca_len, ioa_len}
use Rattle.gateway.specs.declared.settings.StationSettings.{StationSettings}
use Rattle.gateway.specs.Config.{Settings}
use Rattle.gateway.specs.Carried.{place_of, station_with}

-- The station that had this place is set as it was: by its link address it is among the stations
-- now, with its common address, and guarded or not as before; and link addresses, causes of
-- transmission, common addresses and object addresses have as many octets as before.
pub record IsUnchanged (before now : Settings) (place : ℕ) : Type 0 where
  pub was : StationSettings
  pub stood : slice_get before.stations place ≡ Some was
  pub is : StationSettings
  pub found : station_with was.address now.stations ≡ Some is
  pub ca : was.ca ≡ is.ca
  pub select : was.select ≡ is.select
  pub link_size : address_len before.line.link ≡ address_len now.line.link
  pub cause_size : cause_len before.line.sizes.cause ≡ cause_len now.line.sizes.cause
  pub ca_size : ca_len before.line.sizes.ca ≡ ca_len now.line.sizes.ca
  pub ioa_size : ioa_len before.line.sizes.ioa ≡ ioa_len now.line.sizes.ioa

-- The state is one that the run goes on with, and a station with this link address stood in the
-- settings before, and is unchanged.
pub record MayGoOn (goes_on : Bool) (before now : Settings) (address : ℕ) : Type 0 where
  pub trusted : goes_on ≡ true
  pub place : ℕ
  pub known : place_of address before.stations ≡ Some place
  pub unchanged : IsUnchanged before now place
