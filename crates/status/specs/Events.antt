-- The latest lines of the log, as they stand on a page (this gateway's own profile).
use Rattle.std.specs.Prelude.{ℕ, ◌-◌, ◌/◌, ◌%◌, ◌==◌, List, [], ◌∷◌, Option, Some, None, option_map}
use Rattle.std.specs.Prelude.{codes}
use Rattle.std.specs.List.{find}
use Rattle.runlog.specs.declared.names.Subject.{Subject}
use Rattle.runlog.specs.declared.names.Subject.TheVariants as subject
use Rattle.status.specs.Shown.{text_or_none}
use Rattle.status.specs.Words.{joined, two_digits}
use Rattle.status.specs.declared.snapshot.Snapshot.{Snapshot}
use Rattle.status.specs.declared.snapshot.StationView.{StationView}

-- the name of the station with this link address, if it is there
abbrev pub name_in : (address : ℕ) → List StationView → Option (List ℕ)
name_in address stations =
    option_map (λ (s : StationView). s.name.now)
    (find (λ (s : StationView). s.address == address) stations)

-- the name of what a line is about, or nothing
abbrev pub name_about : Snapshot → Subject → List ℕ
name_about s subject.Line = s.name.now
name_about s (subject.Station address) = text_or_none (name_in address s.stations.now)
name_about s subject.Other = []

abbrev pub time_by : Option ℕ → (now moment : ℕ) → Option ℕ
time_by (Some wall) now moment = Some (wall - (now - moment))
time_by None now moment = None

-- what the wall clock showed at a moment before, in ms, if it is known now
abbrev pub time_of : Snapshot → (moment : ℕ) → Option ℕ
time_of s moment = time_by s.wall_ms s.now_ms moment

-- the time of day, or a dash if it isn't known
abbrev pub time_text : Option ℕ → List ℕ
time_text (Some ms) = joined (
    two_digits (ms / 3600000 % 24) ∷ codes ":" ∷ two_digits (ms / 60000 % 60) ∷ codes ":"
    ∷ two_digits (ms / 1000 % 60) ∷ [])
time_text None = codes "-"
