-- What is counted of commands, by what became of them (profile).
use Rattle.std.specs.Prelude.{ℕ, ◌+◌, Bool, true, false, [], ◌∷◌, if◌then◌else◌}
use Rattle.command.specs.History.{History, GivenUp, Mirrored, Offered}

-- how many commands that stood on a line were given up
abbrev pub given_up_in : History → ℕ
given_up_in [] = 0
given_up_in (GivenUp k true ∷ h) = given_up_in h + 1
given_up_in (_ ∷ h) = given_up_in h

-- How many answers of stations to commands were not passed on: right behind each other one the
-- first of its pieces is handed over. `is_handed` says whether that stands behind these.
abbrev pub unpassed_in : (is_handed : Bool) → History → ℕ
unpassed_in is_handed [] = 0
unpassed_in is_handed (Mirrored now v ∷ h) =
    if is_handed then unpassed_in false h else unpassed_in false h + 1
unpassed_in is_handed (Offered octets kept ∷ h) = unpassed_in true h
unpassed_in is_handed (_ ∷ h) = unpassed_in false h
