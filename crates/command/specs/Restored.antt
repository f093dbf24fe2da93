-- The state of commands as lines of numbers, of which it is made again (profile).
use Rattle.std.specs.Prelude.{◌≡◌, ◌≤◌, ◌&&◌, nat_le, ℕ, Bool, true, List, [], ◌∷◌, ◌++◌, length}
use Rattle.std.specs.Prelude.{map, vec_capacity}
use Rattle.std.specs.List.{list_all}
use Rattle.arrayvec.specs.ArrayVec.{ArrayVec}
use Rattle.asdu.specs.declared.sizes.Sizes.{Sizes}
use Rattle.command.specs.State.{State}
use Rattle.command.specs.declared.station.StationInfo.{StationInfo}
use Rattle.command.specs.Fields.{octets_of}
use Rattle.command.specs.declared.restoring.Parts.{Parts}
use Rattle.command.specs.Saved.{waiting_numbers, line_numbers, selection_numbers, sending_numbers}
use Rattle.command.specs.Saved.{is_savable_waiting, is_savable_line, is_savable_selection}
use Rattle.command.specs.Saved.{is_savable_sending, is_answer}

-- how many there are, and then a line for each
abbrev pub list_lines : List (List ℕ) → List (List ℕ)
list_lines lines = (length lines ∷ []) ∷ lines

-- The lines of a state. The settings, and so how many lines of stations there are, stand elsewhere.
abbrev pub commands_lines : State → List (List ℕ)
commands_lines s =
    list_lines (map waiting_numbers s.waiting)
    ++ (map line_numbers s.lines
    ++ (list_lines (map selection_numbers s.selections)
    ++ (list_lines (map sending_numbers s.sendings)
    ++ list_lines s.answers)))

-- it is one with these settings
pub record HasSettings (stations : List StationInfo) (sizes : Sizes) (select_ms max_age_ms : ℕ)
    (s : State) : Type 0 where
  pub same_stations : s.stations ≡ stations
  pub same_sizes : s.sizes ≡ sizes
  pub same_select_ms : s.select_ms ≡ select_ms
  pub same_max_age_ms : s.max_age_ms ≡ max_age_ms

-- What holds of each state that a `Commands` has, and is needed to make it again.
pub record IsSavable (s : State) : Type 0 where
  pub few_waiting : length s.waiting ≤ 64
  pub waiting : list_all is_savable_waiting s.waiting ≡ true
  -- one for each station
  pub all_lines : length s.lines ≡ length s.stations
  pub lines : list_all is_savable_line s.lines ≡ true
  pub few_selections : length s.selections ≤ 16
  pub selections : list_all is_savable_selection s.selections ≡ true
  pub few_sendings : length s.sendings ≤ 16
  pub sendings : list_all is_savable_sending s.sendings ≡ true
  pub few_answers : length s.answers ≤ 16
  pub answers : list_all is_answer s.answers ≡ true

-- what was read is what is kept in this state
pub record ArePartsOf (s : State) (parts : Parts) : Type 0 where
  pub waiting : parts.waiting.items ≡ s.waiting
  pub lines : parts.lines.items ≡ s.lines
  pub selections : parts.selections.items ≡ s.selections
  pub sendings : parts.sendings.items ≡ s.sendings
  pub answers : octets_of parts.answers.items ≡ s.answers

-- what was read fits the places that there are for so many stations
pub record HaveRoom (stations : ℕ) (parts : Parts) : Type 0 where
  pub few_waiting : length parts.waiting.items ≤ 64
  pub waiting : 64 ≤ vec_capacity parts.waiting
  pub lines : length parts.lines.items ≡ stations
  pub selections : length parts.selections.items ≤ 16
  pub sendings : length parts.sendings.items ≤ 16
  pub answers : length parts.answers.items ≤ 16

-- the state with these settings and parts
abbrev pub state_with : List StationInfo → Sizes → ℕ → ℕ → Parts → State
state_with stations sizes select_ms max_age_ms parts = record {
  stations = stations;
  sizes = sizes;
  select_ms = select_ms;
  max_age_ms = max_age_ms;
  waiting = parts.waiting.items;
  lines = parts.lines.items;
  selections = parts.selections.items;
  sendings = parts.sendings.items;
  answers = octets_of parts.answers.items;
}

-- 9 to 249 octets, as an I format carries them
abbrev pub is_long : List ℕ → Bool
is_long octets = nat_le 9 (length octets) && nat_le (length octets) 249

abbrev pub are_long : List (ArrayVec ℕ) → Bool
are_long answers = list_all (λ a. is_long a.items) answers
