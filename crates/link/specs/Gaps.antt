-- Sessions and gaps: a session of a link lies between two confirmed resets (IEC 60870-5-2, 5.1:
-- reset of remote link). The sessions of a station are counted from 1, and one that ended with a
-- poll that has no outcome has a gap: its last report may be lost (this gateway's own profile).
use Rattle.std.specs.Prelude.{◌≡◌, ◌⊎◌, ℕ, suc, ◌+◌, ◌&&◌, List, [], ◌∷◌, ◌++◌, Option}
use Rattle.std.specs.Prelude.{Some, None, slice_index, if◌then◌else◌}
use Rattle.ft12.specs.declared.frame.Front.{Front}
use Rattle.link.specs.Answers.{Service}
use Rattle.std.specs.Io.Iter.{u64_saturate}
use Rattle.link.specs.Delivery.{is_reset, is_gap, pending_after, Session}
use Rattle.link.specs.Exchanges.{Exchange, Exchanges, answer_to, all_of, views, with_station}

-- how many of these exchanges with a station are confirmed resets
abbrev pub resets_in : (station : ℕ) → List Exchange → ℕ
resets_in station [] = 0
resets_in station (x ∷ xs) =
    (if is_reset x.request (answer_to station x) then 1 else 0) + resets_in station xs

-- the number of a session with this pending, if it has a gap
abbrev pub gap_numbered : (number : ℕ) → (pending : Option Service) → Option ℕ
gap_numbered number pending = if is_gap pending then Some (u64_saturate number) else None

-- the number of the session that these exchanges leave, if it has a gap
abbrev pub gap_in : (station : ℕ) → List Exchange → Option ℕ
gap_in station xs = gap_numbered (resets_in station xs) (pending_after station None xs)

abbrev pub as_numbers : Option ℕ → List ℕ
as_numbers None = []
as_numbers (Some session) = session ∷ []

-- the session that an exchange ends, if that has a gap, by the exchanges before it
abbrev pub gap_by : (station : ℕ) → (before : List Exchange) → Exchange → List ℕ
gap_by station before x =
    if is_reset x.request (answer_to station x) then as_numbers (gap_in station before) else []

-- the sessions that ended with a gap, after these exchanges
abbrev pub gaps_from : (station : ℕ) → (before : List Exchange) → List Exchange → List ℕ
gaps_from station before [] = []
gaps_from station before (x ∷ xs) =
    gap_by station before x ++ gaps_from station (before ++ x ∷ []) xs

-- the sessions of a station that ended with a gap, by its exchanges
abbrev pub gaps_in : (station : ℕ) → List Exchange → List ℕ
gaps_in station xs = gaps_from station [] xs

-- Of sessions that follow one another, the first with this number, all have ended but the latest:
-- the numbers of those that ended with a gap.
abbrev pub ended_with_gap : (station : ℕ) → (number : ℕ) → List Session → List ℕ
ended_with_gap station number [] = []
ended_with_gap station number (session ∷ []) = []
ended_with_gap station number (session ∷ (next ∷ later)) =
    as_numbers (gap_numbered number (pending_after station None session.exchanges))
    ++ ended_with_gap station (suc number) (next ∷ later)

-- the exchanges with the station of this index
abbrev pub exchanges_at : (front : List ℕ → Front) → (station : ℕ) → Exchanges → List Exchange
exchanges_at front station e = with_station station (views front (all_of e))

-- and by the exchanges of its line
abbrev pub gap_at : (front : List ℕ → Front) → (addresses : List ℕ) → (station : ℕ) → Exchanges →
    Option ℕ
gap_at front addresses station e =
    gap_in (slice_index addresses station) (exchanges_at front station e)

abbrev pub gaps_at : (front : List ℕ → Front) → (addresses : List ℕ) → (station : ℕ) → Exchanges →
    List ℕ
gaps_at front addresses station e =
    gaps_in (slice_index addresses station) (exchanges_at front station e)
