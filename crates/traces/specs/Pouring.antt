-- The text of a run that is printed while it goes on.
use Rattle.std.specs.Prelude.{◌≡◌, ◌++◌, ℕ, Bool, true, false, List, Option}
use Rattle.std.specs.Io.KnownBytes.{Appends}

-- the first of these octets were written
abbrev pub IsBegun : (before after : Option (List ℕ)) → List ℕ → Type 0
IsBegun before after octets =
    (some : List ℕ) × ((rest : List ℕ) × (some ++ rest ≡ octets)) × Appends before after some

-- all of a text was printed, or, if the output failed, a beginning of it
abbrev pub IsPoured : (is_whole : Bool) → (before after : Option (List ℕ)) → List ℕ → Type 0
IsPoured true before after text = Appends before after text
IsPoured false before after text = IsBegun before after text
