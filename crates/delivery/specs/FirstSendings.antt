-- Requests that send a command for the first time, by the octets of a log (IEC 60870-5-2: a repeat
-- is no first sending; that a command goes out on its own connection alone is this gateway's own
-- profile).
use Rattle.std.specs.Prelude.{◌≡◌, ◌++◌, ◌∷◌, [], ℕ, List, None, false}
use Rattle.std.specs.List.{AllByRecursion}
use Rattle.gateway.specs.Log.{Log, Came, Went, LineOut, Restarted}
use Rattle.gateway.specs.Reports.{Setup, address_at, exchanges_with}
use Rattle.gateway.specs.Course.{Course, came_frames}
use Rattle.delivery.specs.Arrivals.{Arrival, arrivals_in, present_logs}
use Rattle.delivery.specs.Commands.{first_sendings, on_line_of}
use Rattle.delivery.specs.Merges.{IsSublist}
use Rattle.delivery.specs.Octets.{is_opening}

-- the commands that went out to station k for the first time, the oldest first
abbrev pub first_sent : Setup → (k : ℕ) → Log → List (List ℕ)
first_sent p k log = first_sendings (address_at p.addresses k) None (exchanges_with p k log)

-- the request that goes out behind this log is no first sending of a command to station k
abbrev pub SendsNoneFirst : Setup → (k now : ℕ) → (octets : List ℕ) → Log → Type 0
SendsNoneFirst p k now octets log =
    first_sent p k (Went now (LineOut octets) ∷ log) ≡ first_sent p k log

-- it is the first sending to station k of one of these commands, as that is put on its line
pub record SendsFirst (p : Setup) (k now : ℕ) (octets : List ℕ) (log : Log)
    (came : List Arrival) : Type 0 where
  pub command : Arrival
  pub among : IsSublist (command ∷ []) came
  pub goes : first_sent p k (Went now (LineOut octets) ∷ log)
      ≡ first_sent p k log ++ on_line_of p k command.asdu ∷ []

-- the ASDUs that the control centre sent on the open connection, as far as they were taken
abbrev pub open_arrivals : Log → Course → List Arrival
open_arrivals log c = arrivals_in (came_frames c.talk) (present_logs log)

-- the log ends behind this restart
abbrev pub IsBehind : (at : ℕ) → (older : Log) → Log → Type 0
IsBehind at older log = (since : Log) × (log ≡ since ++ Came at Restarted ∷ older)

-- no connection is opened in these entries
abbrev pub OpensNone : Log → Type 0
OpensNone log = AllByRecursion (λ entry. is_opening entry ≡ false) log
