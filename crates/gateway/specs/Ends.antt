-- How connections end, by what became of commands and by the log (IEC 60870-5-104, 5; that nothing
-- of a connection outlives it is this gateway's own profile).
use Rattle.std.specs.Prelude.{ℕ, ◌+◌, [], ◌∷◌, if◌then◌else◌}
use Rattle.command.specs.History.{History, Ended}
use Rattle.gateway.specs.Log.{Log, Opened, CutOff, Restarted, Closed, Came, Went}
use Rattle.gateway.specs.Connections.{ends}

-- how often what was forwarded, selected and kept was taken back
abbrev pub ends_in : History → ℕ
ends_in [] = 0
ends_in (Ended ∷ h) = ends_in h + 1
ends_in (_ ∷ h) = ends_in h

-- How often a connection was over: with each cut, each restart, each close by the causes 1 to 6,
-- and
-- with each `Open`, which replaces the one before.
abbrev pub ends_on : Log → ℕ
ends_on [] = 0
ends_on (Came now Opened ∷ log) = ends_on log + 1
ends_on (Came now CutOff ∷ log) = ends_on log + 1
ends_on (Came now Restarted ∷ log) = ends_on log + 1
ends_on (Went now (Closed cause) ∷ log) = if ends cause then ends_on log + 1 else ends_on log
ends_on (entry ∷ log) = ends_on log
