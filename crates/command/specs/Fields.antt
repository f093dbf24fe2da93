-- How commands are kept.
use Rattle.std.specs.Prelude.{◌≡◌, ℕ, ◌≤◌, List, length, map, vec_capacity}
use Rattle.std.specs.List.{AllByRecursion}
use Rattle.arrayvec.specs.ArrayVec.{ArrayVec}
use Rattle.command.specs.declared.commands.Commands.TheInside.{Inside}
use Rattle.command.specs.State.{State}

abbrev pub octets_of : List (ArrayVec ℕ) → List (List ℕ)
octets_of answers = map (λ a. a.items) answers

-- each has 9 to 249 octets, as an I format carries them
abbrev pub AreAsdus : List (ArrayVec ℕ) → Type 0
AreAsdus answers = AllByRecursion (λ a. (9 ≤ length a.items) × (length a.items ≤ 249)) answers

abbrev pub state_of : Inside → State
state_of a = record {
  stations = a.stations.items;
  sizes = a.sizes;
  select_ms = a.select_ms;
  max_age_ms = a.max_age_ms;
  waiting = a.waiting.items;
  lines = a.lines.items;
  selections = a.selections.items;
  sendings = a.sendings.items;
  answers = octets_of a.answers.items;
}

pub record IsSound (a : Inside) : Type 0 where
  -- a line for each of at most 32 stations
  pub lines : length a.lines.items ≡ length a.stations.items
  pub few : length a.stations.items ≤ 32
  -- room that was taken at the start
  pub waiting : 64 ≤ vec_capacity a.waiting
  pub few_waiting : length a.waiting.items ≤ 64
  pub room : a.answers.capacity ≡ 16
  pub sent : a.sendings.capacity ≡ 16
  pub asdus : AreAsdus a.answers.items
