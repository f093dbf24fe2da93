-- What holds after every list of calls.
use Rattle.std.specs.Prelude.{◌≡◌, ℕ, ◌-◌, false, List, [], length}
use Rattle.apci.specs.declared.apdu.Apdu.{Apdu}
use Rattle.apci.specs.declared.apdu.Apdu.TheVariants.{I, S, U}
use Rattle.session.specs.declared.kinds.Unacknowledged.{Unacknowledged}
use Rattle.session.specs.Session.{Session, refuses, taken, from_queue}
use Rattle.session.specs.History.{History, newly_acknowledged}
use Rattle.session.specs.Runs.{Settings, IsInRange, Call, run}

abbrev pub AfterEachRun : (Settings → Session → History → Type 0) → Type 0
AfterEachRun Holds =
    (p : Settings) (calls : List Call) → IsInRange p →
    Holds p (run p calls).session (run p calls).history

-- the sent frames that a frame newly acknowledges
abbrev pub newly_acknowledged_by : Apdu → History → List Unacknowledged
newly_acknowledged_by (I ns nr asdu) h = newly_acknowledged nr h
newly_acknowledged_by (S nr) h = newly_acknowledged nr h
newly_acknowledged_by (U function) h = []

-- so many frames of the queue, and so many own ones, are given as acknowledged
abbrev pub MatchesAcknowledged : List Unacknowledged → Session → Type 0
MatchesAcknowledged frames s =
    (s.acked_queue ≡ from_queue frames) × (s.acked_own ≡ length frames - from_queue frames)

-- a frame that is taken acknowledges what its N(R) counts
abbrev pub Acknowledges : Session → History → Type 0
Acknowledges s h =
    (frame : Apdu) (now : ℕ) → refuses s frame ≡ false →
    MatchesAcknowledged (newly_acknowledged_by frame h) (taken frame now s)
