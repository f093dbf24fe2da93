-- What the control centre sent, as the log shows when it came (IEC 60870-5-104, 5), and how old a
-- command with a time tag was then (IEC 60870-5-104, 8: types 58 to 62; how old one may be is this
-- gateway's own profile).
use Rattle.std.specs.Prelude.{◌≡◌, ℕ, ◌+◌, ◌-◌, ◌≤◌, Bool, List, [], ◌∷◌, ◌++◌, map}
use Rattle.std.specs.Prelude.{length, get_or, if◌then◌else◌}
use Rattle.elements.specs.TimeTag.{verdict_of}
use Rattle.elements.specs.declared.tag.Verdict.TheVariants.{Good}
use Rattle.apci.specs.declared.apdu.Apdu.{Apdu}
use Rattle.apci.specs.declared.apdu.Apdu.TheVariants.{I}
use Rattle.command.specs.Standard.{tag_of}
use Rattle.gateway.specs.Log.{Log, Came, Went, Opened, TcpIn, CutOff, Restarted, Closed, latest}
use Rattle.gateway.specs.Streams.{spelled}
use Rattle.gateway.specs.Frames.{Connection}
use Rattle.gateway.specs.Connections.{present, ends}
pub use Rattle.gateway.specs.Walls.{HasNoWall, ShowsAt}

-- When octets came

-- for each octet that the open connection received, the log whose latest entry is the event that
-- brought it
abbrev pub present_logs : Log → List Log
present_logs [] = []
present_logs (Came now Opened ∷ log) = []
present_logs (Came now CutOff ∷ log) = []
present_logs (Came now Restarted ∷ log) = []
present_logs (Came now (TcpIn octets) ∷ log) =
    if (present log).is_open
    then present_logs log ++ map (λ octet. Came now (TcpIn octets) ∷ log) octets
    else present_logs log
present_logs (Went now (Closed cause) ∷ log) = if ends cause then [] else present_logs log
present_logs (entry ∷ log) = present_logs log

-- a connection's join those of the connections that are over
abbrev pub over_logs : (is_open : Bool) → List Log → List (List Log) → List (List Log)
over_logs is_open logs past = if is_open then logs ∷ past else past

-- the same for each connection that is over, the newest first
abbrev pub past_logs : Log → List (List Log)
past_logs [] = []
past_logs (Came now Opened ∷ log) =
    over_logs (present log).is_open (present_logs log) (past_logs log)
past_logs (Came now CutOff ∷ log) =
    over_logs (present log).is_open (present_logs log) (past_logs log)
past_logs (Came now Restarted ∷ log) =
    over_logs (present log).is_open (present_logs log) (past_logs log)
past_logs (Went now (Closed cause) ∷ log) =
    if ends cause then over_logs (present log).is_open (present_logs log) (past_logs log)
    else past_logs log
past_logs (entry ∷ log) = past_logs log

-- An ASDU of the control centre, and the log whose latest entry is the event with which its I frame
-- had come whole.
pub record Arrival : Type 0 where
  pub asdu : List ℕ
  pub log : Log

-- the ASDUs of the I frames among frames received, the latest of which is first, by the logs of
-- their octets: a frame has come with its last octet
abbrev pub arrivals_in : List Apdu → List Log → List Arrival
arrivals_in [] logs = []
arrivals_in (I ns nr asdu ∷ older) logs =
    arrivals_in older logs
    ++ record {
      asdu = asdu.items;
      log = get_or logs (length (spelled (I ns nr asdu ∷ older)) - 1) [];
    } ∷ []
arrivals_in (_ ∷ older) logs = arrivals_in older logs

-- those of connections, the latest of which is first
abbrev pub arrivals_by : List Connection → List (List Log) → List Arrival
arrivals_by (c ∷ before) (logs ∷ past) =
    arrivals_by before past ++ arrivals_in c.received_frames logs
arrivals_by _ _ = []

-- The ASDUs of all I frames that the log's connections received, the oldest first.
abbrev pub arrivals : Log → List Connection → List Arrival
arrivals log connections = arrivals_by connections (present_logs log ∷ past_logs log)

-- The wall clock

-- The seven octets at the end are a good time tag; a wall moment stands before in the log; and at
-- the log's moment the two are at most so many milliseconds apart.
pub record IsFreshOn (max_age_ms : ℕ) (log : Log) (asdu : List ℕ) : Type 0 where
  pub instant : ℕ
  pub good : verdict_of (tag_of asdu) ≡ Good instant
  pub clock : ℕ
  pub wall : ShowsAt log (latest log) clock
  pub not_old : clock ≤ instant + max_age_ms
  pub not_ahead : instant ≤ clock + max_age_ms
