-- What passed at the streams, as the log has it (this gateway's own profile).
use Rattle.std.specs.Prelude.{◌≡◌, ℕ, ◌+◌, List, [], ◌∷◌, ◌++◌, Bool, true, false, Option, Some}
use Rattle.std.specs.Prelude.{None, is_some}
use Rattle.gateway.specs.Log.{Log, Came, Went, LineIn, LineOut, Opened, TcpIn, TcpOut, Output}
use Rattle.gateway.specs.declared.ports.Next.{Next}
use Rattle.live.specs.OctetStreams.{Happening, Gave, WasQuiet, Dropped, Wrote, StreamHistory, IsNew}
use Rattle.live.specs.OctetStreams.{Attempts}
use Rattle.live.specs.Ends.{LiveEnds, Peer, LogsTurn, LogsPut}

-- the octets that came from the line, in their order
abbrev pub line_in : Log → List ℕ
line_in [] = []
line_in (Came now (LineIn octets) ∷ log) = line_in log ++ octets
line_in (entry ∷ log) = line_in log

-- the requests that went to the line, the newest first
abbrev pub line_out : Log → List (List ℕ)
line_out [] = []
line_out (Went now (LineOut octets) ∷ log) = octets ∷ line_out log
line_out (entry ∷ log) = line_out log

-- the octets that came on the latest connection, in their order
abbrev pub centre_in : Log → List ℕ
centre_in [] = []
centre_in (Came now Opened ∷ log) = []
centre_in (Came now (TcpIn octets) ∷ log) = centre_in log ++ octets
centre_in (entry ∷ log) = centre_in log

-- the APDUs that went out since it was opened, the newest first
abbrev pub centre_out : Log → List (List ℕ)
centre_out [] = []
centre_out (Came now Opened ∷ log) = []
centre_out (Went now (TcpOut octets) ∷ log) = octets ∷ centre_out log
centre_out (entry ∷ log) = centre_out log

-- how many connections were opened
abbrev pub opened_in : Log → ℕ
opened_in [] = 0
opened_in (Came now Opened ∷ log) = opened_in log + 1
opened_in (entry ∷ log) = opened_in log

-- how often a listener accepted a connection
abbrev pub accepted_in : List Bool → ℕ
accepted_in [] = 0
accepted_in (true ∷ before) = accepted_in before + 1
accepted_in (false ∷ before) = accepted_in before

-- the octets that a stream gave, in their order
abbrev pub given : List Happening → List ℕ
given [] = []
given (Gave octets ∷ before) = given before ++ octets
given (happening ∷ before) = given before

-- what was handed to a stream, the newest first
abbrev pub handed : List Happening → List (List ℕ)
handed [] = []
handed (Wrote octets taken ∷ before) = octets ∷ handed before
handed (happening ∷ before) = handed before

-- what it took
abbrev pub taken_of : List Happening → List (List ℕ)
taken_of [] = []
taken_of (Wrote octets true ∷ before) = octets ∷ taken_of before
taken_of (happening ∷ before) = taken_of before

-- the line gave these octets, and these requests were handed to it
abbrev pub LogsLine : List ℕ → List (List ℕ) → StreamHistory → Type 0
LogsLine came went None = Unit {0}
LogsLine came went (Some happened) = (came ≡ given happened) × (went ≡ handed happened)

-- While no cut is due these APDUs, and no others, were handed to the stream, which took each. Since
-- a write failed, so that a cut is due, the stream was handed the first of them alone, and took
-- each of these but the last, of which it may have taken a part; those that went out behind it were
-- dropped.
abbrev pub LogsWritten : (is_cut_due : Bool) → (went handed taken : List (List ℕ)) → Type 0
LogsWritten true went handed taken = (dropped : List (List ℕ)) × (lost : List ℕ)
    × (went ≡ dropped ++ handed) × (handed ≡ lost ∷ taken)
LogsWritten false went handed taken = (went ≡ handed) × (went ≡ taken)

-- the stream of a connection gave these octets, with those that are held, and took these APDUs
abbrev pub LogsStream : (is_cut_due : Bool) → (held came : List ℕ) → List (List ℕ) → StreamHistory
    → Type 0
LogsStream is_cut_due held came went None = Unit {0}
LogsStream is_cut_due held came went (Some happened) =
    (came ++ held ≡ given happened)
    × LogsWritten is_cut_due went (handed happened) (taken_of happened)

abbrev pub LogsCentre : (is_cut_due : Bool) → (held came : List ℕ) → List (List ℕ) → Option Peer
    → Type 0
LogsCentre is_cut_due held came went None = Unit {0}
LogsCentre is_cut_due held came went (Some peer) = LogsStream is_cut_due held came went peer.stream

-- each connection that was opened is one that the listener accepted
abbrev pub LogsListener : ℕ → Attempts → Type 0
LogsListener count None = Unit {0}
LogsListener count (Some before) = count ≡ accepted_in before

-- the log has what passed at the line, at the open connection, and at the listener
abbrev pub LogsEnds : Log → LiveEnds → Type 0
LogsEnds log ends =
    LogsLine (line_in log) (line_out log) ends.line
    × LogsCentre ends.is_cut_due ends.held (centre_in log) (centre_out log) ends.connection
    × LogsListener (opened_in log) ends.listener

-- the listener hasn't been looked at yet
abbrev pub HasNoAttempts : Attempts → Type 0
HasNoAttempts None = Unit {0}
HasNoAttempts (Some before) = before ≡ []

-- nothing has been logged, nothing has happened at the line and at the listener, and no connection
-- is open
pub record IsFreshRun (ends : LiveEnds) : Type 0 where
  pub log : ends.log ≡ []
  pub line : IsNew ends.line
  pub listener : HasNoAttempts ends.listener
  pub connection : ends.connection ≡ None

-- events and actions in any order
pub data LiveRun (start : LiveEnds) : LiveEnds → Type 0 where
  Begun : LiveRun start start
  Turned : (before now : LiveEnds) → (event : Next) → (buf : List ℕ) → LiveRun start before
      → LogsTurn before event buf now → LiveRun start now
  Put : (before now : LiveEnds) → (moment : ℕ) → (action : Output) → LiveRun start before
      → LogsPut before moment action now → LiveRun start now

-- The line, the listener and the clocks that noted what happens at them note it still.
pub record NotesStill (start end : LiveEnds) : Type 0 where
  pub line : is_some end.line ≡ is_some start.line
  pub listener : is_some end.listener ≡ is_some start.listener
  pub clock : is_some end.clock ≡ is_some start.clock
  pub walls : is_some end.walls ≡ is_some start.walls

-- two requests, three octets of the line in two pieces, and two connections, the second open
abbrev pub example_log : Log
example_log =
    Went 7 (LineOut (16 ∷ 4 ∷ [])) ∷ Came 7 (LineIn (3 ∷ [])) ∷ Came 6 (TcpIn (9 ∷ []))
    ∷ Went 5 (TcpOut (104 ∷ [])) ∷ Came 5 (TcpIn (8 ∷ [])) ∷ Came 4 Opened
    ∷ Went 3 (TcpOut (106 ∷ [])) ∷ Came 3 (LineIn (1 ∷ 2 ∷ [])) ∷ Went 2 (LineOut (16 ∷ []))
    ∷ Came 2 (TcpIn (7 ∷ [])) ∷ Came 1 Opened ∷ []

-- the same at the line, which didn't take the second request, and dropped octets before each
abbrev pub example_line : List Happening
example_line =
    Wrote (16 ∷ 4 ∷ []) false ∷ Dropped 4 ∷ Gave (3 ∷ []) ∷ WasQuiet ∷ Gave (1 ∷ 2 ∷ [])
    ∷ Wrote (16 ∷ []) true ∷ Dropped 1 ∷ WasQuiet ∷ []
