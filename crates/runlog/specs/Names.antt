-- Lines with the names that a site gives (this gateway's own profile).
use Rattle.std.specs.Prelude.{ℕ, ◌==◌, List, [], ◌++◌, Option, Some, None, codes, option_map}
use Rattle.std.specs.List.{find}
use Rattle.runlog.specs.Notes.{line_text}
use Rattle.runlog.specs.declared.names.NamedStation.{NamedStation}
use Rattle.runlog.specs.declared.names.LogNames.{LogNames}
use Rattle.runlog.specs.declared.names.Subject.{Subject}
use Rattle.runlog.specs.declared.names.Subject.TheVariants as subject
use Rattle.runlog.specs.declared.note.LogLine.{LogLine}
use Rattle.runlog.specs.declared.note.Note.{Note}
use Rattle.runlog.specs.declared.note.Note.TheVariants as note

-- what a line is about
abbrev pub subject_of : Note → Subject
subject_of note.LineReached = subject.Line
subject_of note.LineReachedAgain = subject.Line
subject_of (note.LineLost cause) = subject.Line
subject_of (note.LineNotThere cause) = subject.Line
subject_of note.LineSilent = subject.Line
subject_of (note.Asked address) = subject.Station address
subject_of (note.Up address) = subject.Station address
subject_of (note.Silent address) = subject.Station address
subject_of (note.StillSilent address) = subject.Station address
subject_of (note.Again address) = subject.Station address
subject_of (note.Down address) = subject.Station address
subject_of (note.Gap address) = subject.Station address
subject_of (note.Fate order station what) = subject.Station station
subject_of (note.Skipped station kind why) = subject.Station station
subject_of (note.MirrorDropped address) = subject.Station address
subject_of (note.Spoilt address what) = subject.Station address
subject_of (note.Late address ms) = subject.Station address
subject_of _ = subject.Other

-- the name of the station with this link address, if it has one
abbrev pub name_in : (link : ℕ) → List NamedStation → Option (List ℕ)
name_in link stations = option_map (λ s. s.name.now) (find (λ s. s.link == link) stations)

abbrev pub name_at : LogNames → Subject → Option (List ℕ)
name_at names subject.Line = option_map (λ s. s.now) names.line
name_at names (subject.Station link) = name_in link names.stations.now
name_at names subject.Other = None

abbrev pub name_for : LogNames → Note → Option (List ℕ)
name_for names note = name_at names (subject_of note)

abbrev pub name_words : Option (List ℕ) → List ℕ
name_words None = []
name_words (Some name) = codes " [" ++ name ++ codes "]"

-- what stands behind the line's UTC time: the name of what it is about is last
abbrev pub named_text : LogNames → LogLine → List ℕ
named_text names l = line_text l ++ name_words (name_for names l.note)
