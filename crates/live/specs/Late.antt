-- How many octets of the line came too late: those that it dropped before requests, as far as 64
-- bits count (this gateway's own profile). A request goes out when the exchange before is over (IEC
-- 60870-5-2, 5.1), so octets that wait then are no answer to it.
use Rattle.std.specs.Prelude.{◌≡◌, ℕ, ◌+◌, List, [], ◌∷◌, Option, Some, None, option_map}
use Rattle.live.specs.OctetStreams.{Happening, Dropped, WasGone}
use Rattle.live.specs.Ends.{LiveEnds, more}

abbrev pub dropped_of : List Happening → ℕ
dropped_of [] = 0
dropped_of (Dropped count ∷ before) = more count (dropped_of before)
dropped_of (happening ∷ before) = dropped_of before

-- how often a look found the stream gone
abbrev pub gone_of : List Happening → ℕ
gone_of [] = 0
gone_of (WasGone ∷ before) = gone_of before + 1
gone_of (happening ∷ before) = gone_of before

-- so many are late, if the line notes how many it dropped
abbrev pub IsLate : (late : ℕ) → (dropped : Option ℕ) → Type 0
IsLate late None = Unit {0}
IsLate late (Some count) = late ≡ count

abbrev pub CountsLate : LiveEnds → Type 0
CountsLate ends = IsLate ends.late (option_map dropped_of ends.line)
