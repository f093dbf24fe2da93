-- The reports that stations get while they are played (profile).
use Rattle.std.specs.Prelude.{◌≡◌, ℕ, zero, suc, ◌+◌, ◌-◌, ◌^◌, min, nat_lt, Bool, false, ◌&&◌}
use Rattle.std.specs.Prelude.{if◌then◌else◌, List, [], ◌∷◌, ◌++◌, Option, Some, None}
use Rattle.link.specs.Secondary.{Secondary}
use Rattle.sim.specs.declared.directive.Class.{Class}
use Rattle.sim.specs.declared.directive.Class.TheVariants.{One, Two}
use Rattle.sim.specs.Cues.{given_at, report_due}
use Rattle.sim.specs.Exchanges.{OutstationsState}
use Rattle.sim.specs.declared.stations.cue.Cue.{Cue}
use Rattle.sim.specs.declared.stations.cue.DueReport.{DueReport}

-- the station with this report of a class behind those that it has
abbrev pub with_report : Class → List ℕ → Secondary → Secondary
with_report One report s = record s { class1 = s.class1 ++ report ∷ [] }
with_report Two report s = record s { class2 = s.class2 ++ report ∷ [] }

-- the list with the one at this place changed
abbrev pub changed_at : {A : Type 0} → ℕ → (A → A) → List A → List A
changed_at i change [] = []
changed_at zero change (x ∷ xs) = change x ∷ xs
changed_at (suc i) change (x ∷ xs) = x ∷ changed_at i change xs

-- Fewer than 64 reports wait at the station: those that it had, less those that it gave.
abbrev pub has_room : (station : ℕ) → (had : List ℕ) → List Secondary → Bool
has_room i [] ss = false
has_room i (n ∷ had) [] = false
has_room zero (n ∷ had) (s ∷ ss) = nat_lt (n - s.given) 64
has_room (suc i) (n ∷ had) (s ∷ ss) = has_room i had ss

-- a count with one more, as far as 64 bits count
abbrev pub one_more : ℕ → ℕ
one_more n = min (n + 1) (2 ^ 64 - 1)

-- the outstations once this station has this report
abbrev pub reported : (station : ℕ) → Class → List ℕ → OutstationsState → OutstationsState
reported i class report s = record s {
  stations = changed_at i (with_report class report) s.stations;
  had = changed_at i one_more s.had;
}

-- The station takes the report if it has room and memory is granted, and else nothing changes.
pub record IsReported (station : ℕ) (class : Class) (report : List ℕ) (old : OutstationsState)
    (is_taken : Bool) (new : OutstationsState) : Type 0 where
  pub granted : Bool
  pub taken : is_taken ≡ (has_room station old.had old.stations && granted)
  pub new_is : new ≡ (if is_taken then reported station class report old else old)

-- what the line at this place has due
abbrev pub due_in : (passed line : ℕ) → List Cue → Option DueReport
due_in passed i [] = None
due_in passed zero (cue ∷ cues) = report_due passed cue
due_in passed (suc i) (cue ∷ cues) = due_in passed i cues

-- A line gives its station what it has due, and has its next report due then. As long as the
-- station doesn't take it, it stays due.
abbrev pub GivesDue : (passed line : ℕ) → Option DueReport → (old new : OutstationsState) → Type 0
GivesDue passed i None old new = new ≡ old
GivesDue passed i (Some d) old new =
    (is_taken : Bool) × (mid : OutstationsState)
    × IsReported d.station d.class d.report old is_taken mid
    × (new ≡ (if is_taken then record mid { cues = changed_at i (given_at passed) mid.cues }
    else mid))

abbrev pub LineReports : (passed line : ℕ) → (old new : OutstationsState) → Type 0
LineReports passed i old new = GivesDue passed i (due_in passed i old.cues) old new

-- so many lines, one after another
abbrev pub LinesReport : (passed lines : ℕ) → (old new : OutstationsState) → Type 0
LinesReport passed zero old new = new ≡ old
LinesReport passed (suc n) old new =
    (mid : OutstationsState) × LinesReport passed n old mid × LineReports passed n mid new
