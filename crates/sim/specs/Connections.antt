-- The monitor objects that went to the control centre on each connection of a log (this gateway's
-- own profile), for its closing line.
use Rattle.std.specs.Prelude.{ℕ, ◌+◌, ◌-◌, ◌^◌, min, if◌then◌else◌, List, [], ◌∷◌, ◌++◌, drop}
use Rattle.std.specs.Prelude.{length}
use Rattle.gateway.specs.Log.{Log, LogEntry, Came, Went, Opened, TcpOut}
use Rattle.gateway.specs.Objects.{objects}
use Rattle.sim.specs.Centres.{is_data}

-- the monitor objects of an APDU
abbrev pub objects_in_apdu : List ℕ → ℕ
objects_in_apdu octets = if is_data octets then length (objects (drop 6 octets)) else 0

-- so many more on the latest connection, the last (no number goes past 64 bits)
abbrev pub add_latest : (more : ℕ) → (counts : List ℕ) → List ℕ
add_latest more [] = []
add_latest more (n ∷ []) = min (n + more) (2 ^ 64 - 1) ∷ []
add_latest more (n ∷ m ∷ counts) = n ∷ add_latest more (m ∷ counts)

-- what an event or an action makes of the counts
abbrev pub counted_after : LogEntry → (counts : List ℕ) → List ℕ
counted_after (Came now Opened) counts = counts ++ 0 ∷ []
counted_after (Went now (TcpOut octets)) counts = add_latest (objects_in_apdu octets) counts
counted_after entry counts = counts

-- how many monitor objects went to the control centre on each connection of a log, the oldest
-- first
abbrev pub counted_in : Log → List ℕ
counted_in [] = []
counted_in (entry ∷ log) = counted_after entry (counted_in log)
