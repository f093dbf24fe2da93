-- The rules by which an ASDU from the control centre is judged: those of the command alone, then
-- those of what is kept (in this order by this gateway's own profile).
use Rattle.std.specs.Prelude.{ℕ, ◌+◌, not, ◌&&◌, ◌||◌, nat_lt, nat_le, List, [], ◌∷◌, ◌++◌, length}
use Rattle.std.specs.Prelude.{count_by, Option}
use Rattle.std.specs.List.{list_any}
use Rattle.command.specs.Standard.{Rule, negative_of, own_rules, executes, selects}
use Rattle.command.specs.Standard.{must_be_selected, is_for_station}
use Rattle.command.specs.Command.{command_at}
use Rattle.command.specs.Selection.{lets_through}
use Rattle.command.specs.State.{State}
use Rattle.command.specs.Judging.{others}

-- an execute to a station that asks for selects, which no live selection lets through
abbrev pub not_selected : List ℕ → ℕ → State → Rule
not_selected xs now s = record {
  applies =
      must_be_selected s.stations xs && executes xs
      && not (list_any (lets_through s.select_ms (command_at xs) now) s.selections);
  cause = negative_of xs;
}

-- more than 64 commands would wait, or a select to a station that asks for selects finds 16
-- selections of other targets
abbrev pub no_place : List ℕ → State → Rule
no_place xs s = record {
  applies =
      nat_lt 64 (length s.waiting + count_by (is_for_station xs) s.stations)
      || (must_be_selected s.stations xs && selects xs
      && nat_le 16 (length (others (command_at xs) s)));
  cause = negative_of xs;
}

-- in their order
abbrev pub rules_for : List ℕ → ℕ → Option ℕ → State → List Rule
rules_for xs now wall s =
    own_rules s.sizes s.stations s.max_age_ms wall xs ++ not_selected xs now s ∷ no_place xs s ∷ []
