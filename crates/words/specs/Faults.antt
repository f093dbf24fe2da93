-- What octets are that are no whole frame, or more than one (texts of this gateway's own profile).
use Rattle.std.specs.Prelude.{ℕ, ◌==◌, if◌then◌else◌, codes, List, [], ◌++◌}
use Rattle.std.specs.Fmt.{decimal}

-- so many octets follow a frame
unfoldable pub rest_words : ℕ → List ℕ
rest_words n = if n == 0 then [] else codes "  rest " ++ decimal n

-- so many octets begin a frame
unfoldable pub cut_off : ℕ → List ℕ
cut_off n = codes "octets of a frame (" ++ (decimal n ++ codes ")")

-- what is wrong, and the first wrong place, counted from 0
unfoldable pub no_frame : List ℕ → ℕ → List ℕ
no_frame fault place = codes "no frame: " ++ (fault ++ (codes " at " ++ decimal place))
