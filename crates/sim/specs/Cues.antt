-- When a line's report is due (profile). Moments are given in ms behind the start.
use Rattle.std.specs.Prelude.{ℕ, ◌+◌, ◌-◌, ◌%◌, ◌≤◌, nat_le, Bool, false}
use Rattle.std.specs.Prelude.{if◌then◌else◌}
use Rattle.std.specs.Prelude.{Option, Some, None, IfSome}
use Rattle.ft12.specs.declared.frame.LinkSize.{LinkSize}
use Rattle.link.specs.Requests.{FitsFrame}
use Rattle.sim.specs.declared.stations.cue.Cue.{Cue}
use Rattle.sim.specs.declared.stations.cue.Cue.TheVariants.{Restarted, Timed}
use Rattle.sim.specs.declared.stations.cue.DueReport.{DueReport}

-- it is due at this moment
abbrev pub is_due : (passed : ℕ) → (due : Option ℕ) → Bool
is_due passed None = false
is_due passed (Some due) = nat_le due passed

-- the first multiple of so many ms behind this moment
abbrev pub next_due : (passed : ℕ) → (every : Option ℕ) → Option ℕ
next_due passed None = None
next_due passed (Some ms) = Some (passed - passed % ms + ms)

-- the report that a line has due at this moment
abbrev pub report_due : (passed : ℕ) → Cue → Option DueReport
report_due passed (Timed t) =
    if is_due passed t.due
    then Some (record { station = t.station; class = t.class; report = t.report })
    else None
report_due passed cue = None

-- the station that a line has restart at this moment
abbrev pub restart_due : (passed : ℕ) → Cue → Option ℕ
restart_due passed (Restarted t) = if is_due passed t.due then Some t.station else None
restart_due passed cue = None

-- a line whose report is given at this moment, or whose station restarts
abbrev pub given_at : (passed : ℕ) → Cue → Cue
given_at passed (Timed t) = Timed (record t { due = next_due passed t.every })
given_at passed (Restarted t) = Restarted (record t { due = next_due passed t.every })
given_at passed cue = cue

-- 10 ms to a day
abbrev pub IsPeriod : ℕ → Type 0
IsPeriod ms = (10 ≤ ms) × (ms ≤ 86400000)

abbrev pub IsTimely : Cue → Type 0
IsTimely (Timed t) = IfSome t.every IsPeriod
IsTimely (Restarted t) = IfSome t.every IsPeriod
IsTimely cue = Unit {0}

-- its report fits a frame of the line
abbrev pub FitsLine : LinkSize → Cue → Type 0
FitsLine size (Timed t) = FitsFrame size t.report × IfSome t.every IsPeriod
FitsLine size (Restarted t) = IfSome t.every IsPeriod
FitsLine size cue = Unit {0}
