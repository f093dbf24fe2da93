-- What of a run is shown (this gateway's own profile).
use Rattle.std.specs.Prelude.{◌≡◌, ℕ, zero, suc, Bool, true, false, List, [], ◌∷◌, map}
use Rattle.std.specs.Prelude.{◌⊎◌, Option, Some, None, option_map}
use Rattle.std.specs.List.{AllZip}
use Rattle.std.specs.Prelude.{codes, string_bytes}
use Rattle.std.specs.Fmt.{decimal}
use Rattle.gateway.specs.Config.{Settings}
use Rattle.gateway.specs.declared.settings.Silence.{Silence}
use Rattle.gateway.specs.declared.settings.Silence.TheVariants as silence
use Rattle.gateway.specs.declared.settings.StationSettings.{StationSettings as Setting}
use Rattle.std.specs.declared.io.ErrorKind.{ErrorKind}
use Rattle.runlog.specs.Causes.{line_cause_words}
use Rattle.runlog.specs.Names.{name_in, subject_of}
use Rattle.runlog.specs.Notes.{said}
use Rattle.runlog.specs.Severities.{severity_of}
use Rattle.runlog.specs.Stations as stations
use Rattle.runlog.specs.declared.names.NamedStation.{NamedStation}
use Rattle.runlog.specs.declared.note.LogLine.{LogLine}
use Rattle.runlog.specs.declared.stations.StationStanding.{StationStanding}
use Rattle.runlog.specs.declared.stations.StationStanding.TheVariants as stands
use Rattle.runlog.specs.declared.stations.StationWatch.{StationWatch}
use Rattle.runlog.specs.declared.traffic.Traffic.{Traffic}
use Rattle.live.specs.declared.ends.Presence.{Presence}
use Rattle.live.specs.declared.ends.Presence.TheVariants.{Untried, Away, Silent, There, Receiving}
use Rattle.status.specs.declared.lookout.known.Known.{Known}
use Rattle.status.specs.declared.lookout.setting.ChosenSetting.{ChosenSetting}
use Rattle.runlog.specs.declared.ends.OpenConnection.{OpenConnection}
use Rattle.status.specs.declared.snapshot.CentreView.{CentreView}
use Rattle.status.specs.declared.snapshot.EventView.{EventView}
use Rattle.status.specs.declared.snapshot.Setting.{Setting as SettingView}
use Rattle.status.specs.declared.snapshot.LinkState.{LinkState}
use Rattle.status.specs.declared.snapshot.LinkState.TheVariants as standing
use Rattle.status.specs.declared.snapshot.StationView.{StationView}
use Rattle.status.specs.declared.snapshot.Keeping.{Keeping}
use Rattle.status.specs.declared.snapshot.Keeping.TheVariants.{Kept, NotKept}
use Rattle.live.specs.declared.watched.Notice.{Notice}
use Rattle.live.specs.declared.watched.Notice.TheVariants as notices

abbrev pub text_or_none : Option (List ℕ) → List ℕ
text_or_none None = []
text_or_none (Some text) = text

-- a station of the settings, as it is known: its common address, and the name that is given to its
-- link address, or none
pub record Shows : Type 0 where
  pub common_address : ℕ
  pub name : List ℕ

abbrev pub known_as : Known → Shows
known_as k = record { common_address = k.common_address; name = string_bytes k.name }

abbrev pub shown_as : List NamedStation → Setting → Shows
shown_as names s = record {
  common_address = s.ca;
  name = text_or_none (name_in s.address names);
}

-- the stations of the settings, each in its place
abbrev pub AreKnown : List NamedStation → List Setting → List Known → Type 0
AreKnown names settings known = map known_as known ≡ map (shown_as names) settings

abbrev pub standing_of : StationStanding → LinkState
standing_of stands.NotAsked = standing.NotAsked
standing_of stands.Asked = standing.Asked
standing_of stands.Up = standing.Up
standing_of stands.Silent = standing.Silent
standing_of stands.Down = standing.Down

-- a row has the numbers of its station
pub record IsStationRow (known : Known) (watch : StationWatch) (traffic : Traffic)
    (row : StationView)
    : Type 0 where
  pub name : row.name.now ≡ string_bytes known.name
  pub address : row.address ≡ watch.address
  pub common_address : row.common_address ≡ known.common_address
  pub standing : row.standing ≡ standing_of (stations.standing_of watch)
  pub since : row.since_ms ≡ watch.since
  pub last_report : row.last_report_ms ≡ traffic.last_report
  pub reports : row.reports ≡ traffic.reports
  pub skipped : row.skipped ≡ traffic.skipped
  pub gaps : row.gaps ≡ watch.gaps
  pub commands : row.commands ≡ traffic.commands
  pub requests : row.requests ≡ watch.requests
  pub spoilt : row.spoilt ≡ traffic.spoilings
  pub late : row.late ≡ traffic.late_answers

-- The rows are those of the stations, one behind another, in the order of the settings: each that
-- is known, watched and counted has one, up to so many.
abbrev pub AreRows : (places : ℕ) → List Known → List StationWatch → List Traffic
    → List StationView → Type 0
AreRows zero known watches traffics rows = rows ≡ []
AreRows (suc n) [] watches traffics rows = rows ≡ []
AreRows (suc n) (k ∷ known) [] traffics rows = rows ≡ []
AreRows (suc n) (k ∷ known) (w ∷ watches) [] rows = rows ≡ []
AreRows (suc n) (k ∷ known) (w ∷ watches) (t ∷ traffics) [] = ⊥
AreRows (suc n) (k ∷ known) (w ∷ watches) (t ∷ traffics) (row ∷ rows) =
    IsStationRow k w t row × AreRows n known watches traffics rows

-- the words of a line of the log, or nothing if they find no room
abbrev pub IsTextOf : LogLine → (text : List ℕ) → Type 0
IsTextOf line text = (text ≡ said line) ⊎ (text ≡ [])

-- a line of the log as it is shown
pub record IsEvent (line : LogLine) (view : EventView) : Type 0 where
  pub moment : view.moment_ms ≡ line.moment
  pub severity : view.severity ≡ severity_of line.note
  pub about : view.about ≡ subject_of line.note
  pub text : IsTextOf line view.text.bytes

-- each of these lines in its place
abbrev pub AreEvents : List LogLine → List EventView → Type 0
AreEvents = AllZip IsEvent

-- a key, and the text of its value
pub record Pair : Type 0 where
  pub key : List ℕ
  pub value : List ℕ

abbrev pub chosen_as : ChosenSetting → Pair
chosen_as s = record { key = s.key.now; value = string_bytes s.value }

abbrev pub viewed_as : SettingView → Pair
viewed_as s = record { key = s.key.now; value = s.value.now }

abbrev pub silence_text : Silence → List ℕ
silence_text silence.Hold = codes "hold"
silence_text silence.Reset = codes "reset"

abbrev pub numbered : List ℕ → ℕ → Pair
numbered key n = record { key = key; value = decimal n }

-- the settings in force that say how line and connection behave, under their names in settings
abbrev pub in_force : Settings → List Pair
in_force c =
    numbered (codes "line.answer_ms") c.line.answer_ms
    ∷ numbered (codes "line.retries") c.line.retries
    ∷ record { key = codes "line.silence"; value = silence_text c.line.silence }
    ∷ numbered (codes "line.burst") c.line.burst ∷ numbered (codes "line.queue") c.line.queue
    ∷ numbered (codes "tcp.k") c.tcp.k ∷ numbered (codes "tcp.w") c.tcp.w
    ∷ numbered (codes "tcp.t1_ms") c.tcp.t1_ms ∷ numbered (codes "tcp.t2_ms") c.tcp.t2_ms
    ∷ numbered (codes "tcp.t3_ms") c.tcp.t3_ms
    ∷ numbered (codes "tcp.select_ms") c.tcp.select_ms
    ∷ numbered (codes "tcp.max_age_ms") c.tcp.max_age_ms ∷ []

-- whether data transfer is started on the connection that is open
abbrev pub is_started_on : Option OpenConnection → Bool
is_started_on None = false
is_started_on (Some c) = c.is_started

-- since when a connection is open, or none is
abbrev pub stands_since : (gone_since : ℕ) → Option OpenConnection → ℕ
stands_since gone_since None = gone_since
stands_since gone_since (Some c) = c.since

-- the control centre: who is connected, from this address, or that nobody is
pub record IsCentre (opening : Option OpenConnection) (address : List ℕ) (gone_since taken : ℕ)
    (centre : CentreView)
    : Type 0 where
  pub peer : option_map (λ p. p.now) centre.peer ≡ option_map (λ _. address) opening
  pub started : centre.is_started ≡ is_started_on opening
  pub since : centre.since_ms ≡ stands_since gone_since opening
  pub unacknowledged : centre.unacknowledged ≡ taken

-- the line is there: octets may come from it
abbrev pub is_there : Presence → Bool
is_there Untried = false
is_there (Away cause) = false
is_there Silent = false
is_there There = true
is_there Receiving = true

-- why it is away, if that is known
abbrev pub why_away : Presence → Option (List ℕ)
why_away (Away (Some cause)) = Some (line_cause_words cause)
why_away Silent = Some (codes "nothing comes from it")
why_away presence = None

-- what the latest notice says of the state on the disk
abbrev pub keeping_after : Notice → Keeping
keeping_after (notices.NotKept cause) = NotKept
keeping_after notices.KeptAgain = Kept

-- and why it can't be kept, if that is known
abbrev pub lost_after : Option Notice → (before : Option ErrorKind) → Option ErrorKind
lost_after None before = before
lost_after (Some (notices.NotKept cause)) before = cause
lost_after (Some notices.KeptAgain) before = None
