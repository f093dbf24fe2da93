-- Gaps that are reported: which sessions of a station's link ended so that a report may be lost
-- (IEC 60870-5-2, reset of remote link; that they are reported is this gateway's own profile).
use Rattle.std.specs.Prelude.{◌≡◌, ℕ, ◌==◌, if◌then◌else◌, List, [], ◌∷◌, ◌++◌, Option, Some, None}
use Rattle.ft12.specs.Fronts.{front_of}
use Rattle.link.specs.Gaps.{gaps_at}
use Rattle.gateway.specs.declared.gaps.Gap.{Gap}
use Rattle.gateway.specs.Log.{Log, Went, GapOut}
use Rattle.gateway.specs.Reports.{Setup, exchanges_of}

-- The sessions of a station that ended with a gap, by the exchanges of the log, in order: the reset
-- that ended them was answered, and their latest request with a valid frame count bit was a poll
-- that wasn't answered by 8, 9 or E5.
abbrev pub gaps_of : Setup → (station : ℕ) → Log → List ℕ
gaps_of p station log = gaps_at (front_of p.link.size) p.addresses station (exchanges_of p log)

-- the sessions of a station that the log reports as ended with a gap, in order
abbrev pub gaps_reported : (station : ℕ) → Log → List ℕ
gaps_reported station [] = []
gaps_reported station (Went now (GapOut other session) ∷ log) =
    if other == station then gaps_reported station log ++ session ∷ []
    else gaps_reported station log
gaps_reported station (entry ∷ log) = gaps_reported station log

-- each gap is reported, and nothing else is
abbrev pub ReportsGaps : Setup → Log → Type 0
ReportsGaps p log = (station : ℕ) → gaps_reported station log ≡ gaps_of p station log

-- the gap that is still to be reported, if it is this station's
abbrev pub gap_for : (station : ℕ) → Option Gap → List ℕ
gap_for station None = []
gap_for station (Some gap) = if gap.station == station then gap.session ∷ [] else []
