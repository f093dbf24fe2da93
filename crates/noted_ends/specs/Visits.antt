-- What passed at a visitor's stream in memory, which notes it as entries of logs (profile).
use Rattle.std.specs.Prelude.{ℕ, List, [], ◌∷◌, ◌++◌, Bool, true, false}
use Rattle.gateway.specs.Log.{Log, Came, Went, LineIn, LineOut, Opened, CutOff, Ticked, WallIs}
use Rattle.gateway.specs.Log.{Restarted}
use Rattle.status.specs.Streams.{StreamCall, Looked, Handed, Finished}
use Rattle.status.specs.declared.streams.StreamLook.TheVariants as got
use Rattle.status.specs.declared.streams.Took.TheVariants as took

-- the octets that it gave
abbrev pub given_in : Log → List ℕ
given_in [] = []
given_in (Came now (LineIn octets) ∷ log) = given_in log ++ octets
given_in (Came now Ticked ∷ log) = given_in log ++ []
given_in (entry ∷ log) = given_in log

-- the octets that it took
abbrev pub taken_in : Log → List ℕ
taken_in [] = []
taken_in (Went now (LineOut octets) ∷ log) = taken_in log ++ octets
taken_in (entry ∷ log) = taken_in log

-- The calls: a look that found so many octets, nothing, or that the visitor has gone; octets were
-- handed over, and so many taken, or the stream was broken; or its end.
abbrev pub calls_in : Log → List StreamCall
calls_in [] = []
calls_in (Came now (WallIs len) ∷ log) = Looked (got.Octets len) ∷ calls_in log
calls_in (Came now Ticked ∷ log) = Looked got.Quiet ∷ calls_in log
calls_in (Came now CutOff ∷ log) = Looked got.Gone ∷ calls_in log
calls_in (Went count (LineOut octets) ∷ log) = Handed (took.Octets count) ∷ calls_in log
calls_in (Came now Opened ∷ log) = Handed took.Nothing ∷ calls_in log
calls_in (Came now Restarted ∷ log) = Finished ∷ calls_in log
calls_in (entry ∷ log) = calls_in log

-- at each look for a visitor: one had come, or none
abbrev pub arrivals_in : Log → List Bool
arrivals_in [] = []
arrivals_in (Came now Opened ∷ log) = true ∷ arrivals_in log
arrivals_in (Came now Ticked ∷ log) = false ∷ arrivals_in log
arrivals_in (entry ∷ log) = arrivals_in log
