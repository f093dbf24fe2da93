-- What a long run shows on a terminal while it goes on (texts of this gateway's own profile).
use Rattle.std.specs.Prelude.{ℕ, ◌*◌, ◌/◌, List, [], ◌∷◌, ◌++◌, codes}
use Rattle.std.specs.Fmt.{decimal}

-- the whole percent of all that are done
abbrev pub percent_of : (done all : ℕ) → ℕ
percent_of done all = done * 100 / all

-- they are shown from the beginning of the line on
abbrev pub percent_text : (percent : ℕ) → List ℕ
percent_text percent = 13 ∷ decimal percent ++ codes " %"

-- the line is blank, and what comes next stands at its beginning
abbrev pub blank_text : List ℕ
blank_text = 13 ∷ codes "     " ++ 13 ∷ []
