-- Sessions of a station's link, from one answered reset to the next (IEC 60870-5-2, link reset in
-- unbalanced transmission), as an operator learns of them (this gateway's own profile).
use Rattle.std.specs.Prelude.{◌≡◌, ◌⊎◌, ℕ, suc, ◌+◌, ◌-◌, List, [], ◌∷◌, ◌++◌, length, None}
use Rattle.std.specs.Prelude.{if◌then◌else◌}
use Rattle.std.specs.Io.Iter.{u64_saturate}
use Rattle.link.specs.Outstation.{Turn, all_done}
use Rattle.link.specs.Delivery.{Session, learnt, reports, is_gap, pending_after, IsAllOrButLast}
use Rattle.gateway.specs.Log.{Log, Went, GapOut}
use Rattle.gateway.specs.Reports.{Setup, address_at}
use Rattle.delivery.specs.Delivery.{sessions_of}

-- the sessions that ended: all but the latest
abbrev pub ended : List Session → List Session
ended [] = []
ended (session ∷ []) = []
ended (session ∷ (next ∷ later)) = session ∷ ended (next ∷ later)

-- the outstation's reports in a session were all taken
abbrev pub LosesNone : (station : ℕ) → Session → Type 0
LosesNone station s = reports (learnt station s.exchanges) ≡ reports (all_done s.turns)

-- or all but the last
abbrev pub LosesLastAtMost : (station : ℕ) → Session → Type 0
LosesLastAtMost station s =
    IsAllOrButLast (reports (all_done s.turns)) (reports (learnt station s.exchanges))

-- Of these sessions, the first with this number, each that ended lost no report, or its number is
-- reported as a gap and it lost its last report at most; and no others are reported. (A session
-- goes on until its next answered reset: of the latest nothing is reported.)
abbrev pub LoseAsReported : (station number : ℕ) → List Session → (logged : List ℕ) → Type 0
LoseAsReported station number [] logged = logged ≡ []
LoseAsReported station number (session ∷ []) logged = logged ≡ []
LoseAsReported station number (session ∷ (next ∷ later)) logged =
    (LosesNone station session × LoseAsReported station (suc number) (next ∷ later) logged)
    ⊎ ((others : List ℕ) × (logged ≡ u64_saturate number ∷ others) × LosesLastAtMost station session
    × LoseAsReported station (suc number) (next ∷ later) others)

-- how many of these have a gap: their latest request with a valid frame count bit is a poll that
-- wasn't answered that it is served (functions 8 and 9, or the single character)
abbrev pub gaps_in : (station : ℕ) → List Session → ℕ
gaps_in station [] = 0
gaps_in station (s ∷ ss) =
    if is_gap (pending_after station None s.exchanges) then gaps_in station ss + 1
    else gaps_in station ss

-- how many reports the outstation gave in these sessions
abbrev pub given_in : List Session → ℕ
given_in [] = 0
given_in (s ∷ ss) = length (reports (all_done s.turns)) + given_in ss

-- how many were taken in them: those in answered polls
abbrev pub taken_in : (station : ℕ) → List Session → ℕ
taken_in station [] = 0
taken_in station (s ∷ ss) = length (reports (learnt station s.exchanges)) + taken_in station ss

-- What is reported of the sessions of a link: how many resets were answered, with how many gaps
-- sessions ended, and how many reports, given in those that ended, were not taken.
pub record SessionCounts : Type 0 where
  pub sessions : ℕ
  pub gaps : ℕ
  pub lost : ℕ

abbrev pub counts_of : (station : ℕ) → List Session → SessionCounts
counts_of station ss = record {
  sessions = length ss;
  gaps = gaps_in station (ended ss);
  lost = given_in (ended ss) - taken_in station (ended ss);
}

-- the counts of a log, for a station that took these turns
abbrev pub session_counts : Setup → Log → ℕ → List Turn → SessionCounts
session_counts p log i turns = counts_of (address_at p.addresses i) (sessions_of p log i turns)

-- the gaps that a log reports, each with the number of its station and of its session, the oldest
-- first
abbrev pub gaps_on : Log → List (ℕ × ℕ)
gaps_on [] = []
gaps_on (Went now (GapOut station session) ∷ log) = gaps_on log ++ (station, session) ∷ []
gaps_on (entry ∷ log) = gaps_on log
