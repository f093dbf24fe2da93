-- What is logged of slow syncs of the state (this gateway's own profile).
use Rattle.std.specs.Prelude.{ℕ, ◌||◌, not, nat_le, Option, Some, None, if◌then◌else◌}
use Rattle.live.specs.declared.syncs.SyncTimes.{SyncTimes}
use Rattle.runlog.specs.Ends.{changed, new_limit}
use Rattle.runlog.specs.Limits.{is_minute_after}
use Rattle.runlog.specs.declared.note.LogLine.{LogLine}
use Rattle.runlog.specs.declared.note.Note.TheVariants as note
use Rattle.runlog.specs.declared.syncs.SyncWatch.{SyncWatch}

abbrev pub new_syncs : SyncWatch
new_syncs = record { told = 0; limit = new_limit }

abbrev pub syncs_logged : (count : ℕ) → Option LogLine → SyncWatch → SyncWatch × Option LogLine
syncs_logged count None w = (w, None)
syncs_logged count (Some line) w = (record w { told = count }, Some line)

abbrev pub syncs_tried : SyncTimes → (now : ℕ) → SyncWatch → SyncWatch × Option LogLine
syncs_tried s now w =
    let logged = changed (note.SlowSync s.last_ms s.longest_ms) w.limit now in
    syncs_logged s.count logged.1 (record w { limit = logged.0 })

-- the last and the longest of them, once a minute at most, if there are more than at the last line
abbrev pub syncs_seen : SyncTimes → (now : ℕ) → SyncWatch → SyncWatch × Option LogLine
syncs_seen s now w =
    if nat_le s.count w.told || not (is_minute_after w.limit.logged now) then (w, None)
    else syncs_tried s now w
