-- What a start makes of the link to a station, as the settings or the state's age ask for it
-- (profile).
use Rattle.std.specs.Prelude.{◌==◌, ◌&&◌, not, Bool, true, false, cond, Option, Some, None}
use Rattle.ft12.specs.Spelling.{address_len}
use Rattle.asdu.specs.Sizes.{cause_len, ca_len, ioa_len}
use Rattle.gateway.specs.declared.settings.LineSettings.{LineSettings}
use Rattle.gateway.specs.declared.settings.StationSettings.{StationSettings}
use Rattle.gateway.specs.declared.starting_links.LinkStart.{LinkStart}
use Rattle.gateway.specs.declared.starting_links.LinkStart.TheVariants as links

-- addresses in frames, and the numbers in ASDUs, have as many octets
abbrev pub have_same_sizes : LineSettings → LineSettings → Bool
have_same_sizes a b =
    (address_len a.link == address_len b.link)
    && ((cause_len a.sizes.cause == cause_len b.sizes.cause)
    && ((ca_len a.sizes.ca == ca_len b.sizes.ca)
    && (ioa_len a.sizes.ioa == ioa_len b.sizes.ioa)))

abbrev pub are_alike : Bool → Bool → Bool
are_alike true select = select
are_alike false select = not select

-- the station is set as it was
abbrev pub are_same : StationSettings → StationSettings → Bool
are_same a b = (a.ca == b.ca) && are_alike a.select b.select

-- What becomes of the link to a station that was set so before, and is set so now; whether frame
-- count bits and held services hold, and whether the sizes of frames and ASDUs are as they were.
abbrev pub link_start : (holds same_sizes : Bool) → (before now : Option StationSettings)
    → LinkStart
link_start holds same_sizes None now = links.Down
link_start holds same_sizes (Some before) None = links.Dropped
link_start false same_sizes (Some before) (Some now) = links.ResetAfterGap
link_start true false (Some before) (Some now) = links.Reset
link_start true true (Some before) (Some now) =
    cond (are_same before now) links.GoesOn links.Reset
