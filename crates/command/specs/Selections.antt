-- Which selects are kept, by the history (how long a selection lasts is this gateway's own
-- profile).
use Rattle.std.specs.Prelude.{◌≡◌, ℕ, ◌+◌, ◌-◌, ◌<◌, Bool, true, ◌&&◌, ◌==◌, List, [], ◌∷◌, Some}
use Rattle.std.specs.Prelude.{unwrap_or, slice_index}
use Rattle.asdu.specs.declared.sizes.Sizes.{Sizes}
use Rattle.command.specs.Command.{command_at}
use Rattle.command.specs.Standard.{plain_type, common_address, object_address, station_of}
use Rattle.command.specs.History.{History, Select, sent_count, place_on_line, is_accepted_at}
use Rattle.command.specs.History.{standing, confirmed_at}
use Rattle.command.specs.declared.station.StationInfo.{StationInfo}
use Rattle.command.specs.declared.selection.Selection.{Selection}
use Rattle.command.specs.declared.selection.SelectStage.{SelectStage}
use Rattle.command.specs.declared.selection.SelectStage.TheVariants.{Queued, Sent, Accepted, Live}

-- it has the type on the line, the common address and the object address of these octets
abbrev pub is_of : List ℕ → Selection → Bool
is_of xs y =
    plain_type (slice_index xs 0) == y.command.kind && common_address xs == y.command.ca
    && object_address xs == y.command.address

module _ (sizes : Sizes) (stations : List StationInfo) (select_ms max_age_ms : ℕ) where
  -- How far the select has come: so many commands of its station go out before it; it stands on the
  -- line; the station accepted it; its latest confirmation came at this moment.
  abbrev pub HasCome : SelectStage → Select → History → Type 0
  HasCome (Queued ahead) z h =
      z.place
      ≡ sent_count sizes stations select_ms max_age_ms (station_of stations z.octets) h + ahead
  HasCome Sent z h =
      place_on_line sizes stations select_ms max_age_ms (station_of stations z.octets) h
      ≡ Some z.place
  HasCome Accepted z h =
      is_accepted_at sizes stations select_ms max_age_ms (station_of stations z.octets) z.place h
      ≡ true
  HasCome (Live since) z h =
      (is_accepted_at sizes stations select_ms max_age_ms (station_of stations z.octets) z.place h
      ≡ true)
      × (confirmed_at sizes stations select_ms max_age_ms z h ≡ Some since)

  -- the selection is this select, as far as it has come
  pub record IsSelect (h : History) (y : Selection) (z : Select) : Type 0 where
    pub command : y.command ≡ command_at z.octets
    pub came : y.came ≡ z.came
    pub station : y.station ≡ station_of stations z.octets
    pub has_come : HasCome y.stage z h

  -- a selection of the target of xs is the select that stands
  abbrev pub IsStanding : History → List ℕ → Selection → Type 0
  IsStanding h xs y =
      is_of xs y ≡ true
      → (z : Select) × (standing sizes stations select_ms max_age_ms xs h ≡ Some z) × IsSelect h y z

  -- that select, or its latest confirmation, came less than select_ms ago
  abbrev pub IsInTime : ℕ → History → List ℕ → Selection → Type 0
  IsInTime now h xs y =
      is_of xs y ≡ true
      → (z : Select) × (standing sizes stations select_ms max_age_ms xs h ≡ Some z)
      × (now - unwrap_or (confirmed_at sizes stations select_ms max_age_ms z h) z.came < select_ms)
