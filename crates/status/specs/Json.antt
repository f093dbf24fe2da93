-- The snapshot as JSON (RFC 8259; the keys are this gateway's own).
use Rattle.std.specs.Prelude.{ℕ, List, [], ◌∷◌, Bool, Option, Some, None, codes, if◌then◌else◌}
use Rattle.std.specs.Fmt.{decimal}
use Rattle.std.specs.Borrow.{Bor}
use Rattle.status.specs.Events.{name_about, time_of}
use Rattle.status.specs.Words.{escaped, joined, number_or, listed}
use Rattle.status.specs.Judge.{judgement_of}
use Rattle.status.specs.Labels.{judgement_text, keeping_text, severity_text, standing_text}
use Rattle.status.specs.Texts.{summary}
use Rattle.status.specs.declared.words.Marks.TheVariants.{Json}
use Rattle.status.specs.declared.snapshot.EventView.{EventView}
use Rattle.status.specs.declared.snapshot.StationView.{StationView}
use Rattle.status.specs.declared.snapshot.Setting.{Setting}
use Rattle.status.specs.declared.snapshot.Snapshot.{Snapshot}

abbrev pub flag : Bool → List ℕ
flag b = if b then codes "true" else codes "false"

-- a text as a string
abbrev pub json_string : List ℕ → List ℕ
json_string text = joined (codes "\"" ∷ escaped Json text ∷ codes "\"" ∷ [])

-- the same, or null
abbrev pub json_of_text : Option (Bor (List ℕ)) → List ℕ
json_of_text (Some text) = json_string text.now
json_of_text None = codes "null"

abbrev pub station_parts : StationView → List (List ℕ)
station_parts s =
    codes "{\"name\":\"" ∷ escaped Json s.name.now ∷ codes "\",\"address\":" ∷ decimal s.address
    ∷ codes ",\"common_address\":" ∷ decimal s.common_address
    ∷ codes ",\"standing\":\"" ∷ standing_text s.standing
    ∷ codes "\",\"since_ms\":" ∷ decimal s.since_ms
    ∷ codes ",\"last_report_ms\":" ∷ number_or s.last_report_ms (codes "null")
    ∷ codes ",\"reports\":" ∷ decimal s.reports ∷ codes ",\"skipped\":" ∷ decimal s.skipped
    ∷ codes ",\"gaps\":" ∷ decimal s.gaps ∷ codes ",\"commands\":" ∷ decimal s.commands
    ∷ codes ",\"requests\":" ∷ decimal s.requests.sent
    ∷ codes ",\"repeats\":" ∷ decimal s.requests.repeats
    ∷ codes ",\"unanswered\":" ∷ decimal s.requests.unanswered
    ∷ codes ",\"spoilt\":" ∷ decimal s.spoilt ∷ codes ",\"late\":" ∷ decimal s.late
    ∷ codes "}" ∷ []

abbrev pub json_of_station : StationView → List ℕ
json_of_station s = joined (station_parts s)

-- a setting as a member of an object
abbrev pub json_of_setting : Setting → List ℕ
json_of_setting s = joined (
    codes "\"" ∷ escaped Json s.key.now ∷ codes "\":\"" ∷ escaped Json s.value.now
    ∷ codes "\"" ∷ [])

-- a line of the log as an object
abbrev pub event_head : EventView → (wall : Option ℕ) → List ℕ
event_head event wall = joined (
    codes "{\"moment_ms\":" ∷ decimal event.moment_ms
    ∷ codes ",\"wall_ms\":" ∷ number_or wall (codes "null")
    ∷ codes ",\"severity\":\"" ∷ severity_text event.severity ∷ codes "\"" ∷ [])

abbrev pub event_parts : Snapshot → EventView → List (List ℕ)
event_parts s event =
    event_head event (time_of s event.moment_ms)
    ∷ codes ",\"line\":" ∷ json_string event.text.bytes
    ∷ codes ",\"name\":" ∷ json_string (name_about s event.about) ∷ codes "}" ∷ []

abbrev pub json_of_event : Snapshot → EventView → List ℕ
json_of_event s event = joined (event_parts s event)

-- what stands before the summary, which has none of the octets that mean something else
abbrev pub json_before_summary : Snapshot → List ℕ
json_before_summary s = joined (
    codes "{\"version\":\"" ∷ escaped Json s.version.now
    ∷ codes "\",\"judgement\":\"" ∷ judgement_text (judgement_of s)
    ∷ codes "\",\"summary\":\"" ∷ [])

-- what stands between that and why the line is away
abbrev pub parts_before_cause : Snapshot → List (List ℕ)
parts_before_cause s =
    codes "\",\"now_ms\":" ∷ decimal s.now_ms ∷ codes ",\"started_ms\":" ∷ decimal s.started_ms
    ∷ codes ",\"wall_ms\":" ∷ number_or s.wall_ms (codes "null")
    ∷ codes ",\"line\":{\"name\":\"" ∷ escaped Json s.name.now
    ∷ codes "\",\"there\":" ∷ flag s.line.is_there
    ∷ codes ",\"was_there\":" ∷ flag s.line.was_there
    ∷ codes ",\"since_ms\":" ∷ decimal s.line.since_ms ∷ codes ",\"cause\":" ∷ []

abbrev pub json_before_cause : Snapshot → List ℕ
json_before_cause s = joined (parts_before_cause s)

-- what stands between that and the numbers of the last hour
abbrev pub parts_before_hour : Snapshot → List (List ℕ)
parts_before_hour s =
    codes ",\"started\":" ∷ flag s.centre.is_started
    ∷ codes ",\"since_ms\":" ∷ decimal s.centre.since_ms
    ∷ codes ",\"unacknowledged\":" ∷ decimal s.centre.unacknowledged
    ∷ codes "},\"queue\":{\"taken\":" ∷ decimal s.queue.taken
    ∷ codes ",\"places\":" ∷ decimal s.queue.places
    ∷ codes ",\"oldest_ms\":" ∷ number_or s.queue.oldest_ms (codes "null")
    ∷ codes ",\"hour\":[" ∷ []

abbrev pub json_before_hour : Snapshot → List ℕ
json_before_hour s = joined (parts_before_hour s)

-- what stands between that and the stations
abbrev pub json_before_stations : Snapshot → List ℕ
json_before_stations s = joined (
    codes "]},\"state\":\"" ∷ keeping_text s.keeping
    ∷ codes "\",\"latest_sync_ms\":" ∷ decimal s.syncs.latest_ms
    ∷ codes ",\"slow_syncs\":{\"count\":" ∷ decimal s.syncs.count
    ∷ codes ",\"last_ms\":" ∷ decimal s.syncs.last_ms
    ∷ codes ",\"longest_ms\":" ∷ decimal s.syncs.longest_ms ∷ codes "},\"stations\":[" ∷ [])

abbrev pub json_parts : Snapshot → List (List ℕ)
json_parts s =
    json_before_summary s ∷ summary s ∷ json_before_cause s ∷ json_of_text s.line.cause
    ∷ codes "},\"centre\":{\"peer\":" ∷ json_of_text s.centre.peer
    ∷ json_before_hour s ∷ listed decimal s.queue.hour.now
    ∷ json_before_stations s ∷ listed json_of_station s.stations.now
    ∷ codes "],\"latest\":[" ∷ listed (json_of_event s) s.latest.now
    ∷ codes "],\"settings\":{" ∷ listed json_of_setting s.settings.now ∷ codes "}}\n" ∷ []

abbrev pub json_of : Snapshot → List ℕ
json_of s = joined (json_parts s)
