-- Which octets are a connection's (IEC 60870-5-104, 5; which event begins and ends one is this
-- gateway's own profile). Nothing here is borrowed from the gateway's channels.
use Rattle.std.specs.Prelude.{◌≡◌, Bool, true, false, List, [], ◌∷◌, ◌++◌, ℕ}
use Rattle.session.specs.declared.kinds.Close.TheVariants.{OwnAnswers, Replaced}
use Rattle.gateway.specs.Log.{Log, LogEntry, Came, Went, Opened, CutOff, Restarted, TcpIn}
use Rattle.gateway.specs.Log.{TcpOut, Closed}

-- A connection begins when one is opened. It ends when TCP is cut, when the gateway is started
-- again, when it closes the connection with a cause from 1 to 6, and when the next one is opened
-- (which is told with cause 7).
abbrev pub Ends : LogEntry → Type 0
Ends (Came now Opened) = Unit {0}
Ends (Came now CutOff) = Unit {0}
Ends (Came now Restarted) = Unit {0}
Ends (Went now (Closed cause)) = cause ≡ Replaced → ⊥
Ends entry = ⊥

-- none begins or ends in these entries
abbrev pub GoesOn : Log → Type 0
GoesOn [] = Unit {0}
GoesOn (entry ∷ log) = (Ends entry → ⊥) × GoesOn log

-- the octets that came by TCP, joined
abbrev pub octets_in : Log → List ℕ
octets_in [] = []
octets_in (Came now (TcpIn octets) ∷ log) = octets_in log ++ octets
octets_in (entry ∷ log) = octets_in log

-- those that were handed to TCP
abbrev pub octets_out : Log → List ℕ
octets_out [] = []
octets_out (Went now (TcpOut octets) ∷ log) = octets_out log ++ octets
octets_out (entry ∷ log) = octets_out log

-- the entry is the close for want of a place for an own answer (cause 6)
abbrev pub lacks_place : LogEntry → Bool
lacks_place (Went now (Closed OwnAnswers)) = true
lacks_place entry = false

-- the entry opens one
abbrev pub is_opening : LogEntry → Bool
is_opening (Came now Opened) = true
is_opening entry = false

-- these entries are actions of a step
abbrev pub AreActions : Log → Type 0
AreActions [] = Unit {0}
AreActions (Came now event ∷ log) = ⊥
AreActions (Went now action ∷ log) = AreActions log
