-- The snapshot in Prometheus' text format, version 0.0.4 (the names are this gateway's own).
use Rattle.std.specs.Prelude.{ℕ, List, [], ◌∷◌, ◌++◌, codes, if◌then◌else◌}
use Rattle.std.specs.Option.{is_some}
use Rattle.std.specs.Fmt.{decimal}
use Rattle.status.specs.Judge.{cannot_keep, keeps}
use Rattle.status.specs.Labels.{value_of}
use Rattle.status.specs.Texts.{oldest_seconds, seconds}
use Rattle.status.specs.Words.{escaped, joined, rows, thousandths, word_text}
use Rattle.status.specs.declared.metrics.Family.{Family}
use Rattle.status.specs.declared.metrics.Gauge.{Gauge}
use Rattle.status.specs.declared.words.Count.{Count}
use Rattle.status.specs.declared.words.Count.TheVariants as count
use Rattle.status.specs.declared.words.Marks.TheVariants.{Label}
use Rattle.status.specs.declared.snapshot.StationView.{StationView}
use Rattle.status.specs.declared.snapshot.Snapshot.{Snapshot}

-- what a number is, and the number
abbrev pub gauge_text : (name help value : List ℕ) → List ℕ
gauge_text name help value = joined (
    codes "# HELP " ∷ name ∷ codes " " ∷ help ∷ codes "\n# TYPE " ∷ name ∷ codes " gauge\n"
    ∷ name ∷ codes " " ∷ value ∷ codes "\n" ∷ [])

abbrev pub text_of_gauge : Gauge → List ℕ
text_of_gauge g = gauge_text g.name.now g.help.now (word_text g.value)

-- the number of a station
abbrev pub text_of_sample : (name : List ℕ) → Count → StationView → List ℕ
text_of_sample name which s = joined (
    name ∷ codes "{station=\"" ∷ decimal s.address ∷ codes "\"} " ∷ decimal (value_of which s)
    ∷ codes "\n" ∷ [])

-- what the numbers of stations are
abbrev pub head_text : (name help kind : List ℕ) → List ℕ
head_text name help kind = joined (
    codes "# HELP " ∷ name ∷ codes " " ∷ help ∷ codes "\n# TYPE " ∷ name ∷ codes " " ∷ kind
    ∷ codes "\n" ∷ [])

abbrev pub head_of_family : Family → List ℕ
head_of_family f = head_text f.name.now f.help.now f.kind.now

-- the numbers of all stations, behind what they are
abbrev pub family_text : List StationView → (name help kind : List ℕ) → Count → List ℕ
family_text stations name help kind which =
    head_text name help kind ++ rows (text_of_sample name which) stations

abbrev pub text_of_family : List StationView → Family → List ℕ
text_of_family stations f = family_text stations f.name.now f.help.now f.kind.now f.count

-- what a station is called
abbrev pub text_of_info : StationView → List ℕ
text_of_info s = joined (
    codes "telegate_station_info{station=\"" ∷ decimal s.address ∷ codes "\",common_address=\""
    ∷ decimal s.common_address ∷ codes "\",name=\"" ∷ escaped Label s.name.now
    ∷ codes "\"} 1\n" ∷ [])

-- the version and the name of the line, and what stands before the names of stations
abbrev pub build_text : Snapshot → List ℕ
build_text s = joined (
    codes "# HELP telegate_build_info Version of the gateway.\n"
    ∷ codes "# TYPE telegate_build_info gauge\ntelegate_build_info{version=\""
    ∷ escaped Label s.version.now ∷ codes "\"} 1\n"
    ∷ codes "# HELP telegate_line_info Name of the line.\n"
    ∷ codes "# TYPE telegate_line_info gauge\ntelegate_line_info{name=\""
    ∷ escaped Label s.name.now ∷ codes "\"} 1\n"
    ∷ codes "# HELP telegate_station_info Names of the outstations.\n"
    ∷ codes "# TYPE telegate_station_info gauge\n" ∷ [])

abbrev pub gauge_parts : Snapshot → List (List ℕ)
gauge_parts s =
    gauge_text (codes "telegate_uptime_seconds") (codes "How long the process has been running.")
    (decimal (seconds s.now_ms s.started_ms))
    ∷ gauge_text (codes "telegate_moment_seconds") (codes "The moment of the run.")
    (decimal (seconds s.now_ms 0))
    ∷ gauge_text (codes "telegate_line_up") (codes "Whether the serial line can be reached.")
    (if s.line.is_there then codes "1" else codes "0")
    ∷ gauge_text (codes "telegate_centre_connected")
    (codes "Whether a control centre is connected.")
    (if is_some s.centre.peer then codes "1" else codes "0")
    ∷ gauge_text (codes "telegate_centre_started")
    (codes "Whether data transfer to the control centre is started.")
    (if s.centre.is_started then codes "1" else codes "0")
    ∷ gauge_text (codes "telegate_centre_unacknowledged")
    (codes "Pieces that the control centre has not acknowledged yet.")
    (decimal s.centre.unacknowledged)
    ∷ gauge_text (codes "telegate_queue_places") (codes "Places that the queue has.")
    (decimal s.queue.places)
    ∷ gauge_text (codes "telegate_queue_taken") (codes "Places of the queue that are taken.")
    (decimal s.queue.taken)
    ∷ gauge_text (codes "telegate_queue_oldest_seconds")
    (codes "How long the oldest queued report has waited at least, 0 without one.")
    (decimal (oldest_seconds s.queue)) ∷ []

abbrev pub gauges_text : Snapshot → List ℕ
gauges_text s = joined (gauge_parts s)

-- how the state is kept
abbrev pub keeping_parts : Snapshot → List (List ℕ)
keeping_parts s =
    gauge_text (codes "telegate_state_kept") (codes "Whether the state is kept on the disk.")
    (if keeps s.keeping then codes "1" else codes "0")
    ∷ gauge_text (codes "telegate_state_lost")
    (codes "Whether the state is to be kept on the disk and can not be.")
    (if cannot_keep s.keeping then codes "1" else codes "0")
    ∷ gauge_text (codes "telegate_latest_sync_seconds")
    (codes "How long the latest sync of the state took, 0 before the first.")
    (thousandths s.syncs.latest_ms)
    ∷ gauge_text (codes "telegate_longest_sync_seconds")
    (codes "How long the longest slow sync of the state took.") (thousandths s.syncs.longest_ms)
    ∷ []

abbrev pub keeping_text : Snapshot → List ℕ
keeping_text s = joined (keeping_parts s)

-- how many syncs of the state were slow
abbrev pub syncs_text : Snapshot → List ℕ
syncs_text s = joined (
    codes "# HELP telegate_slow_syncs_total Syncs of the state of 100 ms or more.\n"
    ∷ codes "# TYPE telegate_slow_syncs_total counter\ntelegate_slow_syncs_total "
    ∷ decimal s.syncs.count ∷ codes "\n" ∷ [])

abbrev pub family_parts : List StationView → List (List ℕ)
family_parts stations =
    family_text stations (codes "telegate_station_up") (codes "Whether the outstation answers.")
    (codes "gauge") count.Up
    ∷ family_text stations (codes "telegate_station_reports_total")
    (codes "Reports that the outstation has given.") (codes "counter") count.Reports
    ∷ family_text stations (codes "telegate_station_skipped_total")
    (codes "Reports of the outstation that could not be used.") (codes "counter") count.Skipped
    ∷ family_text stations (codes "telegate_station_gaps_total")
    (codes "How often reports of the outstation may have been lost.") (codes "counter") count.Gaps
    ∷ family_text stations (codes "telegate_station_commands_total")
    (codes "Commands that went to the outstation.") (codes "counter") count.Commands ∷ []

abbrev pub families_text : List StationView → List ℕ
families_text stations = joined (family_parts stations)

-- when the stations reported, and how well they answer
abbrev pub quality_parts : List StationView → List (List ℕ)
quality_parts stations =
    family_text stations (codes "telegate_station_last_report_seconds")
    (codes "The moment of the last report, 0 before the first.") (codes "gauge") count.LastReport
    ∷ family_text stations (codes "telegate_station_requests_total")
    (codes "Requests to the outstation.") (codes "counter") count.Requests
    ∷ family_text stations (codes "telegate_station_repeats_total")
    (codes "Requests that were the one before again.") (codes "counter") count.Repeats
    ∷ family_text stations (codes "telegate_station_unanswered_total")
    (codes "Requests without an answer to any of their repeats.") (codes "counter")
    count.Unanswered
    ∷ family_text stations (codes "telegate_station_spoilt_total")
    (codes "How often something else came than an answer.") (codes "counter") count.Spoilt
    ∷ family_text stations (codes "telegate_station_late_total")
    (codes "Answers that came when their exchange was over.") (codes "counter") count.Late ∷ []

abbrev pub quality_text : List StationView → List ℕ
quality_text stations = joined (quality_parts stations)

abbrev pub metrics_parts : Snapshot → List (List ℕ)
metrics_parts s =
    build_text s ∷ rows text_of_info s.stations.now ∷ gauges_text s ∷ keeping_text s
    ∷ syncs_text s ∷ families_text s.stations.now ∷ quality_text s.stations.now ∷ []

abbrev pub metrics_of : Snapshot → List ℕ
metrics_of s = joined (metrics_parts s)
