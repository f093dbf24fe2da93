-- What a run prints behind the lines of its actions, if it is asked for (texts of this gateway's
-- own profile).
use Rattle.std.specs.Prelude.{ℕ, Bool, List, [], ◌∷◌, ◌++◌, codes, if◌then◌else◌}
use Rattle.std.specs.List.{flat_map}
use Rattle.std.specs.Fmt.{decimal}
use Rattle.hex.specs.Hex.{encode_upper}
use Rattle.events.specs.Queue.{kept}
use Rattle.gateway.specs.State.{State, counts_of}
use Rattle.gateway.specs.declared.counts.Counts.{Counts}

-- a piece that no connection has acknowledged
abbrev pub left_line : List ℕ → List ℕ
left_line piece = codes "left " ++ encode_upper piece ++ 10 ∷ []

-- the number of reports that can't be used, and then the other numbers
abbrev pub skipped_text : (skipped : ℕ) → List ℕ
skipped_text skipped = codes "counts skipped " ++ decimal skipped ++ codes " "

abbrev pub others_text : (mirrors lost spoilt : ℕ) → List ℕ
others_text mirrors lost spoilt = codes "mirrors " ++ decimal mirrors ++ codes " lost "
    ++ decimal lost ++ codes " spoilt " ++ decimal spoilt ++ 10 ∷ []

abbrev pub counts_line : Counts → List ℕ
counts_line c = skipped_text c.skipped ++ others_text c.mirrors c.lost c.spoilt

-- what is left, the oldest first, if it is asked for
abbrev pub left_lines : (left : Bool) → State → List ℕ
left_lines left s = if left then flat_map left_line (kept s.centre.queue) else []

-- what was counted, if it is asked for
abbrev pub counts_lines : (counts : Bool) → State → List ℕ
counts_lines counts s = if counts then counts_line (counts_of s) else []

abbrev pub closing_lines : (left counts : Bool) → State → List ℕ
closing_lines left counts s = left_lines left s ++ counts_lines counts s
