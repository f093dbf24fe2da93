-- Words of the laws of what a visitor sees of a run (this gateway's own profile).
use Rattle.std.specs.Prelude.{◌≡◌, ℕ, Bool, true, Option, List, [], ◌∷◌, ◌++◌, Some, None}
use Rattle.std.specs.Prelude.{codes, map, ◌&&◌, if◌then◌else◌}
use Rattle.std.specs.Fmt.{decimal}
use Rattle.gateway.specs.Config.{Settings}
use Rattle.gateway.specs.declared.settings.StationSettings.{StationSettings as Setting}
use Rattle.status.specs.Looking.{IsFreshLookout, IsShown, is_over, turned_after}
use Rattle.status.specs.Looks.{Look, after_looks, standing_word}
use Rattle.status.specs.Shown.{Pair, silence_text, viewed_as}
use Rattle.status.specs.declared.lookout.ShownRun.{ShownRun}
use Rattle.runlog.specs.Names.{name_in}
use Rattle.runlog.specs.declared.names.LogNames.{LogNames}
use Rattle.runlog.specs.declared.stations.StationWatch.{StationWatch}
use Rattle.runlog.specs.declared.traffic.Traffic.{Traffic}
use Rattle.runlog.specs.Logging.{taken_in}
use Rattle.status.specs.Labels.{standing_text}
use Rattle.status.specs.LastHour.{QueueLook}
use Rattle.status.specs.declared.snapshot.Setting.{Setting as SettingView}
use Rattle.status.specs.declared.snapshot.Snapshot.{Snapshot}
use Rattle.status.specs.declared.snapshot.StationView.{StationView}

-- Visitors are shown this of a run with these settings, at the last of these looks.
pub record IsSight (c : Settings) (names : LogNames) (keeps : Bool) (looks : List Look)
    (last : Look) (s : Snapshot)
    : Type 0 where
  pub fresh : ShownRun
  pub begins : IsFreshLookout c names keeps fresh
  pub due : is_over (after_looks (record { turned = None; shown = fresh }) looks).turned
      last.watch.moment 20
      ≡ true
  -- what is noted by then; the text of an address is noted beside it
  pub shown : ShownRun
  pub noted : shown
      ≡ record (after_looks (record { turned = None; shown = fresh }) (looks ++ last ∷ [])).shown {
        peer = shown.peer;
      }
  pub seen : IsShown shown last.watch s

-- when the visitors had a turn last, and the counts of the queue so far, the newest one first
pub record Counts : Type 0 where
  pub turned : Option ℕ
  pub counts : List QueueLook

abbrev pub newest : List QueueLook → Option ℕ
newest [] = None
newest (count ∷ counts) = Some count.moment

-- The queue is counted when the visitors have a turn, a second or more after the count before.
abbrev pub count_at : Look → Counts → Counts
count_at l c = record {
  turned = turned_after c.turned l.watch.moment;
  counts = if is_over c.turned l.watch.moment 20 && is_over (newest c.counts) l.watch.moment 1000
      then record { moment = l.watch.moment; taken = taken_in l.gateway } ∷ c.counts
      else c.counts;
}

abbrev pub counts_after : Counts → List Look → Counts
counts_after c [] = c
counts_after c (l ∷ looks) = counts_after (count_at l c) looks

-- a row tells of the station with this setting what was watched and counted of it
pub record TellsOf (names : LogNames) (setting : Setting) (watch : StationWatch)
    (traffic : Traffic) (row : StationView)
    : Type 0 where
  pub named : (name : List ℕ) → name_in setting.address names.stations.now ≡ Some name
      → row.name.now ≡ name
  pub nameless : name_in setting.address names.stations.now ≡ None → row.name.now ≡ []
  pub common_address : row.common_address ≡ setting.ca
  pub address : row.address ≡ watch.address
  pub standing : standing_text row.standing ≡ standing_word watch
  pub since : row.since_ms ≡ watch.since
  pub gaps : row.gaps ≡ watch.gaps
  pub last_report : row.last_report_ms ≡ traffic.last_report
  pub reports : row.reports ≡ traffic.reports
  pub skipped : row.skipped ≡ traffic.skipped
  pub commands : row.commands ≡ traffic.commands
  pub requests : row.requests ≡ watch.requests
  pub spoilt : row.spoilt ≡ traffic.spoilings
  pub late : row.late ≡ traffic.late_answers

-- among the settings that are shown, this one has that value
abbrev pub HasSetting : List SettingView → (key value : List ℕ) → Type 0
HasSetting views key value =
    (before : List Pair) × (after : List Pair)
    × (map viewed_as views ≡ before ++ record { key = key; value = value } ∷ after)

-- each setting of line and connection under its name
pub record ShowsSettings (c : Settings) (views : List SettingView) : Type 0 where
  pub answer : HasSetting views (codes "line.answer_ms") (decimal c.line.answer_ms)
  pub retries : HasSetting views (codes "line.retries") (decimal c.line.retries)
  pub silence : HasSetting views (codes "line.silence") (silence_text c.line.silence)
  pub burst : HasSetting views (codes "line.burst") (decimal c.line.burst)
  pub queue : HasSetting views (codes "line.queue") (decimal c.line.queue)
  pub k : HasSetting views (codes "tcp.k") (decimal c.tcp.k)
  pub w : HasSetting views (codes "tcp.w") (decimal c.tcp.w)
  pub t1 : HasSetting views (codes "tcp.t1_ms") (decimal c.tcp.t1_ms)
  pub t2 : HasSetting views (codes "tcp.t2_ms") (decimal c.tcp.t2_ms)
  pub t3 : HasSetting views (codes "tcp.t3_ms") (decimal c.tcp.t3_ms)
  pub select : HasSetting views (codes "tcp.select_ms") (decimal c.tcp.select_ms)
  pub max_age : HasSetting views (codes "tcp.max_age_ms") (decimal c.tcp.max_age_ms)
