-- What is counted of commands, in the words of the log (this gateway's own profile).
use Rattle.std.specs.Prelude.{◌≡◌, ◌⊎◌, ℕ, zero, suc, ◌+◌, ◌-◌, Bool, true, false, List, []}
use Rattle.std.specs.Prelude.{◌∷◌, length, None, if◌then◌else◌}
use Rattle.session.specs.History as talk
use Rattle.gateway.specs.Log.{Log, LineIn, Came}
use Rattle.gateway.specs.Connections.{present}
use Rattle.gateway.specs.Reports.{Setup, address_at, exchanges_with, reports_in}
use Rattle.gateway.specs.Course.{Course, HasTakenAll, Runs}
use Rattle.delivery.specs.Commands.{LineStep, Begun, Confirmed, Busy, Lost, steps_in, unmissed}
use Rattle.delivery.specs.Joined.{command_reports}

-- ---- Lost commands

-- How many commands are lost in these steps of one station: its link goes down, and one stands
-- there that went out and was neither confirmed nor refused as busy. `stands` says whether one does
-- before them.
abbrev pub lost_in : (stands : Bool) → List LineStep → ℕ
lost_in stands [] = 0
lost_in stands (Begun asdu ∷ steps) = lost_in true steps
lost_in stands (Confirmed asdu ∷ steps) = lost_in false steps
lost_in stands (Busy asdu ∷ steps) = lost_in false steps
lost_in stands (Lost ∷ steps) =
    if stands then suc (lost_in false steps) else lost_in false steps

-- how many commands to a station were lost, as its exchanges show
abbrev pub lost_of : Setup → Log → ℕ → ℕ
lost_of p log k =
    lost_in false (steps_in p.link (address_at p.addresses k) unmissed None
    (exchanges_with p k log))

-- the sum of these numbers for so many stations, from the first on
abbrev pub sum_upto : (ℕ → ℕ) → (count : ℕ) → ℕ
sum_upto numbers zero = 0
sum_upto numbers (suc k) = sum_upto numbers k + numbers k

-- ---- Answers that weren't passed on

-- how many of the log's reports are answers to commands
abbrev pub answers_on : Setup → Log → ℕ
answers_on p log = length (command_reports p.sizes (reports_in p log))

-- So many of them came while data transfer was stopped on the connection, or while there was none.
abbrev pub CameStopped : Setup → Log → ℕ → Type 0
CameStopped p [] n = n ≡ 0
CameStopped p (Came at (LineIn octets) ∷ log) n =
    (c : Course) × (earlier : ℕ) × Runs p log c × HasTakenAll (present log) c.talk
    × CameStopped p log earlier
    × (n ≡ (if talk.is_started c.talk then earlier
    else earlier + (answers_on p (Came at (LineIn octets) ∷ log) - answers_on p log)))
CameStopped p (entry ∷ log) n = CameStopped p log n

-- ---- New settings
