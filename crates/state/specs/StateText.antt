-- What a directory of a state has, in lines for who looks at it (texts of this gateway's own
-- profile).
use Rattle.std.specs.Prelude.{◌≡◌, ℕ, nat_lt, Bool, true, false, List, [], ◌∷◌, ◌++◌, codes}
use Rattle.std.specs.Prelude.{IfSome, MatchOption, Ok, Option, Some, None}
use Rattle.std.specs.Fmt.{decimal}
use Rattle.gateway.specs.Config.{Settings}
use Rattle.gateway.specs.State.{State}
use Rattle.gateway.specs.declared.settings.StationSettings.{StationSettings}
use Rattle.gateway.specs.declared.walls.Wall.{Wall}
use Rattle.runlog.specs.Notes.{words}
use Rattle.runlog.specs.declared.note.Note.{Note}
use Rattle.runlog.specs.declared.note.Note.TheVariants as note
use Rattle.runlog.specs.declared.note.Trouble.TheVariants as trouble
use Rattle.segments.specs.declared.start.Side.{Side}
use Rattle.segments.specs.declared.start.Side.TheVariants as sides
use Rattle.settings.specs.Settings.{IsReadOfText}
use Rattle.events.specs.Queue.{kept as pieces_kept}
use Rattle.state.specs.Sights.{AreChanged}
use Rattle.state.specs.declared.given_up.GivenUp.{GivenUp}
use Rattle.state.specs.declared.looking.Seen.{Seen}
use Rattle.state.specs.declared.looking.Sight.{Sight}
use Rattle.state.specs.declared.start.Beginning.{Beginning}
use Rattle.state.specs.StartNotes.{note_of, note_of_damage, note_of_given_up, note_of_queue}
use Rattle.state.specs.StartNotes.{note_of_settings}
use Rattle.state.specs.ChangedSettings.{changed_lines}
use Rattle.state.specs.Dates.{IsDated}
use Rattle.state.specs.QueuedReports.{report_lines}
use Rattle.state.specs.StationLines.{station_lines}

-- the words of the log, if there is anything to say
abbrev pub note_line : Option Note → List ℕ
note_line None = []
note_line (Some note) = words note ++ 10 ∷ []

-- a run has the directory
abbrev pub held_note : (is_held : Bool) → Option Note
held_note false = None
held_note true = Some (note.Trouble trouble.StateInUse)

abbrev pub mark_line : (is_stale : Bool) → List ℕ
mark_line false = []
mark_line true = codes "the directory is marked as stale" ++ 10 ∷ []

abbrev pub file_name : Side → List ℕ
file_name sides.Log = codes "segments-wal"
file_name sides.Db = codes "segments"

abbrev pub segment_words : (number : ℕ) → List ℕ
segment_words number = codes "segment " ++ decimal number ++ codes " in "

abbrev pub events_words : (events : ℕ) → List ℕ
events_words events = codes ", events behind its head: " ++ decimal events ++ 10 ∷ []

abbrev pub segment_line : Seen → List ℕ
segment_line s = segment_words s.number ++ file_name s.side ++ events_words s.events

-- two numbers, each behind its words, to the end of a line
abbrev pub both : (words : List ℕ) → (number : ℕ) → (more : List ℕ) → (other : ℕ) → List ℕ
both words number more other = words ++ decimal number ++ more ++ decimal other ++ 10 ∷ []

-- some of the lines can't be read
abbrev pub unread_line : (is_cut : Bool) → (events lines : ℕ) → List ℕ
unread_line false events lines = []
unread_line true events lines =
    both (codes "lines there that can be read: ") events (codes " of ") lines

-- the moment of the latest event
abbrev pub moment_words : (moment : ℕ) → List ℕ
moment_words moment = codes "moment in ms " ++ decimal moment

-- what the wall clock showed at its latest event, and when that was
abbrev pub wall_words : Option Wall → List ℕ
wall_words None = codes ", wall clock not told yet" ++ 10 ∷ []
wall_words (Some wall) =
    both (codes ", wall clock in ms ") wall.number (codes " at moment ") wall.moment

-- the moments of the gateway that a run would go on with
abbrev pub moments : State → List ℕ
moments s = moment_words s.moment ++ wall_words s.wall

-- the line of these dates stands behind them
abbrev pub gateway_lines : (dates : List ℕ) → State → List ℕ
gateway_lines dates s = moments s ++ dates ++ station_lines s.serial.line 0 s.serial.line.stations

-- what its start would give up of the connection, a line each
abbrev pub given_up_lines : List GivenUp → List ℕ
given_up_lines [] = []
given_up_lines (g ∷ gs) = note_line (Some (note_of_given_up g)) ++ given_up_lines gs

-- both
abbrev pub standing_lines : (dates : List ℕ) → Seen → List ℕ
standing_lines dates s = gateway_lines dates s.gateway ++ given_up_lines s.given_up.items

-- what a run that goes on with it would report
abbrev pub notes_lines : (is_moved : Bool) → Seen → List ℕ
notes_lines is_moved s =
    note_line (note_of_settings is_moved) ++ note_line (Some (note_of_queue s.gateway))

-- where it stands, and how far it can be read
abbrev pub place_lines : Seen → List ℕ
place_lines s = segment_line s ++ unread_line (nat_lt s.events s.lines) s.events s.lines
    ++ note_line (note_of_damage s.damage)

-- what a log that counts has, with these dates
abbrev pub found_lines : (is_moved : Bool) → (dates : List ℕ) → Seen → List ℕ
found_lines is_moved dates s = notes_lines is_moved s ++ place_lines s ++ standing_lines dates s

-- this text, before the settings
abbrev pub end_lines : (compared : List ℕ) → List ℕ
end_lines compared = compared ++ codes "kept under these settings:" ++ 10 ∷ []

-- the log that a run would go on with, with this text behind
abbrev pub shown_log : (is_moved : Bool) → (dates compared : List ℕ) → Seen → List ℕ
shown_log is_moved dates compared s = found_lines is_moved dates s ++ end_lines compared

-- with the settings at its head
abbrev pub seen_lines : (is_moved : Bool) → (dates compared : List ℕ) → Option Seen → List ℕ
seen_lines is_moved dates compared None = []
seen_lines is_moved dates compared (Some s) =
    shown_log is_moved dates compared s ++ s.settings.items

-- how a run would begin
abbrev pub beginning_lines : (is_held is_stale : Bool) → Beginning → List ℕ
beginning_lines is_held is_stale beginning =
    note_line (held_note is_held) ++ mark_line is_stale ++ note_line (note_of beginning)

-- the lines that a run would log at its start, and what they stand on
abbrev pub state_text : (is_held is_stale is_moved : Bool) → (dates compared : List ℕ) → Sight
    → List ℕ
state_text is_held is_stale is_moved dates compared o =
    beginning_lines is_held is_stale o.beginning ++ seen_lines is_moved dates compared o.seen

-- whether the settings are others than these, if any are given
abbrev pub IsMovedFrom : (given : Option (List ℕ)) → Option Seen → Bool → Type 0
IsMovedFrom None seen is_moved = is_moved ≡ false
IsMovedFrom (Some text) None is_moved = is_moved ≡ false
IsMovedFrom (Some text) (Some s) is_moved = AreChanged s.settings.items text is_moved

-- a text says these settings, or none can be read in it
abbrev pub IsSaidBy : (text : List ℕ) → Option Settings → Type 0
IsSaidBy text said =
    MatchOption said ((c : Settings) → IsReadOfText text (Ok c) → ⊥) (λ c. IsReadOfText text (Ok c))

-- each piece that is queued, if they are wanted
abbrev pub reports_of : (are_wanted : Bool) → List StationSettings → State → List ℕ
reports_of false stations s = []
reports_of true stations s = report_lines stations (pieces_kept s.centre.queue)

-- With the stations of the settings that were kept, if these can be read; and each key whose value
-- differs from that of other settings, if these can be read too.
abbrev pub compared_lines : (are_wanted : Bool) → (kept now : Option Settings) → State → List ℕ
compared_lines are_wanted None now s = reports_of are_wanted [] s
compared_lines are_wanted (Some kept) None s = reports_of are_wanted kept.stations s
compared_lines are_wanted (Some kept) (Some now) s =
    reports_of are_wanted kept.stations s ++ changed_lines kept now

-- the settings that are given, if any are
abbrev pub AreGiven : (given : Option (List ℕ)) → Option Settings → Type 0
AreGiven None now = now ≡ None
AreGiven (Some text) now = IsSaidBy text now

-- this is told beside the log of a state, and beside the settings that are given
pub record IsCompared (are_wanted : Bool) (given : Option (List ℕ)) (s : Seen) (text : List ℕ) :
    Type 0 where
  pub kept : Option Settings
  pub now : Option Settings
  pub kept_is : IsSaidBy s.settings.items kept
  pub now_is : AreGiven given now
  pub is : text ≡ compared_lines are_wanted kept now s.gateway

-- this text says it, with the dates of the gateway
pub record IsStateText (is_held is_stale are_wanted : Bool) (given : Option (List ℕ)) (o : Sight)
    (text : List ℕ) : Type 0 where
  pub is_moved : Bool
  pub moved : IsMovedFrom given o.seen is_moved
  pub dates : List ℕ
  pub dated : IfSome o.seen (λ s. IsDated s.gateway dates)
  pub compared : List ℕ
  pub told : IfSome o.seen (λ s. IsCompared are_wanted given s compared)
  pub is : text ≡ state_text is_held is_stale is_moved dates compared o
