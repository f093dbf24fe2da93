-- What a command needs to be forwarded if nothing is wrong with it (this gateway's own profile).
use Rattle.std.specs.Prelude.{ℕ, suc, ◌+◌, ◌≤◌, List, [], ◌∷◌, count_by, if◌then◌else◌}
use Rattle.command.specs.Standard.{is_for_station}
use Rattle.command.specs.History.{History, forwarded_in_all, sent_in_all}
use Rattle.command.specs.Selections.{is_of}
use Rattle.command.specs.declared.station.StationInfo.{StationInfo}
use Rattle.command.specs.declared.selection.Selection.{Selection}

-- 64 commands may wait: there are places for this one, for each station that it is for.
abbrev pub FindsPlaces : List StationInfo → List ℕ → History → Type 0
FindsPlaces stations xs h =
    forwarded_in_all stations h + count_by (is_for_station xs) stations ≤ sent_in_all h + 64

-- how many of the selections aren't of its target
abbrev pub of_others : List ℕ → List Selection → ℕ
of_others xs [] = 0
of_others xs (y ∷ ys) = if is_of xs y then of_others xs ys else suc (of_others xs ys)
