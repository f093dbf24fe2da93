-- The snapshot as a page for a person (this gateway's own profile).
use Rattle.std.specs.Prelude.{ℕ, ◌+◌, ◌-◌, ◌*◌, ◌/◌, ◌%◌, ◌==◌, Bool, true, false, List, [], ◌∷◌}
use Rattle.std.specs.Prelude.{length, Option, Some, None, codes, if◌then◌else◌}
use Rattle.std.specs.Bool.{beq}
use Rattle.std.specs.Fmt.{decimal}
use Rattle.status.specs.Judge.{is_silent, judgement_of, unfilled}
use Rattle.status.specs.Events.{name_about, time_of, time_text}
use Rattle.status.specs.Labels.{judgement_text, keeping_text, severity_text, standing_text}
use Rattle.status.specs.Texts.{age_or, age_text, line_text, oldest_text, summary, syncs_text}
use Rattle.status.specs.Words.{escaped, escaped_or, joined, rows, two_digits}
use Rattle.status.specs.declared.html.TheConstants.{HEAD, STYLE, LINE, SYNCS, STATIONS, EVENTS}
use Rattle.status.specs.declared.html.TheConstants.{HOUR, SETTINGS, END}
use Rattle.status.specs.declared.snapshot.EventView.{EventView}
use Rattle.status.specs.declared.words.Marks.TheVariants.{Html}
use Rattle.status.specs.declared.snapshot.Setting.{Setting}
use Rattle.status.specs.declared.snapshot.StationView.{StationView}
use Rattle.status.specs.declared.snapshot.Snapshot.{Snapshot}

-- what stands between two cells
abbrev pub cell : List ℕ
cell = codes "</td><td class=\"n\">"

-- whose row it is, and how it stands
abbrev pub row_head : StationView → List ℕ
row_head s = joined (
    codes "<tr class=\"" ∷ standing_text s.standing ∷ codes "\"><td>" ∷ escaped Html s.name.now
    ∷ cell ∷ decimal s.address ∷ cell ∷ decimal s.common_address
    ∷ codes "</td><td class=\"s\">" ∷ standing_text s.standing ∷ cell ∷ [])

-- what was counted of a station
abbrev pub count_parts : StationView → List (List ℕ)
count_parts s =
    cell ∷ decimal s.reports ∷ cell ∷ decimal s.skipped ∷ cell ∷ decimal s.gaps
    ∷ cell ∷ decimal s.commands ∷ codes "</td></tr>\n" ∷ []

abbrev pub row_counts : StationView → List ℕ
row_counts s = joined (count_parts s)

abbrev pub row_parts : (now : ℕ) → StationView → List (List ℕ)
row_parts now s =
    row_head s ∷ age_text 0 now s.since_ms ∷ cell ∷ age_or 0 now s.last_report_ms (codes "none")
    ∷ row_counts s ∷ []

abbrev pub text_of_row : (now : ℕ) → StationView → List ℕ
text_of_row now s = joined (row_parts now s)

-- the same of a station that doesn't answer, or else of one that does
abbrev pub row_if : (is_so : Bool) → (now : ℕ) → StationView → List ℕ
row_if is_so now s = if beq (is_silent s) is_so then text_of_row now s else []

abbrev pub text_of_setting : Setting → List ℕ
text_of_setting s = joined (
    codes "<tr><th>" ∷ escaped Html s.key.now ∷ codes "</th><td>" ∷ escaped Html s.value.now
    ∷ codes "</td></tr>\n" ∷ [])

-- how far from the top the number of taken places is, in whole percents of the height, so that one
-- piece is seen, too
abbrev pub depth : (places taken : ℕ) → ℕ
depth places taken = if places == 0 then 100 else (places - taken) * 100 / places

-- a step of a path: down to that, and one to the right (SVG, 9.3)
abbrev pub text_of_step : (places taken : ℕ) → List ℕ
text_of_step places taken = joined (codes "V" ∷ decimal (depth places taken) ∷ codes "h1" ∷ [])

-- what stands in place of a name, if there is none
abbrev pub if_nameless : (name : List ℕ) → List ℕ
if_nameless name = if length name == 0 then codes "telegate" else codes ""

abbrev pub head_text : Snapshot → List ℕ
head_text s = joined (
    HEAD.now ∷ escaped Html s.name.now ∷ if_nameless s.name.now
    ∷ STYLE.now ∷ escaped Html s.name.now ∷ if_nameless s.name.now
    ∷ codes "</h1>\n<p class=\"" ∷ judgement_text (judgement_of s) ∷ codes "\">" ∷ [])

abbrev pub centre_text : Snapshot → List ℕ
centre_text s = joined (
    codes "</td></tr>\n<tr><th>control centre</th><td>"
    ∷ escaped_or Html s.centre.peer (codes "not connected")
    ∷ (if s.centre.is_started then codes ", started" else codes "") ∷ codes " for " ∷ [])

abbrev pub state_text : Snapshot → List ℕ
state_text s = joined (codes "</td></tr>\n<tr><th>state</th><td>" ∷ keeping_text s.keeping ∷ [])

-- less than 80 % of the places
abbrev pub good_queue : (places : ℕ) → ℕ
good_queue places = places * 4 / 5 - 1

abbrev pub taken_text : Snapshot → List ℕ
taken_text s = joined (
    codes "</td></tr>\n<tr><th>queue</th><td>" ∷ decimal s.queue.taken
    ∷ codes " of " ∷ decimal s.queue.places ∷ [])

abbrev pub meter_parts : Snapshot → List (List ℕ)
meter_parts s =
    codes " <meter min=\"0\" optimum=\"0\" low=\"" ∷ decimal (good_queue s.queue.places)
    ∷ codes "\" high=\"" ∷ decimal (unfilled s.queue)
    ∷ codes "\" max=\"" ∷ decimal s.queue.places
    ∷ codes "\" value=\"" ∷ decimal s.queue.taken
    ∷ codes "\"></meter></td></tr>\n" ∷ []

abbrev pub meter_text : Snapshot → List ℕ
meter_text s = joined (meter_parts s)

-- the stations, those first that don't answer
abbrev pub station_parts : Snapshot → List (List ℕ)
station_parts s =
    STATIONS.now ∷ rows (row_if true s.now_ms) s.stations.now
    ∷ rows (row_if false s.now_ms) s.stations.now ∷ []

abbrev pub stations_text : Snapshot → List ℕ
stations_text s = joined (station_parts s)

-- the version, as a row before the settings
abbrev pub version_text : Snapshot → List ℕ
version_text s = joined (
    SETTINGS.now ∷ codes "<tr><th>telegate</th><td>" ∷ escaped Html s.version.now
    ∷ codes "</td></tr>\n" ∷ [])

-- the name of what a line is about behind its words, if that has one
abbrev pub name_text : (name : List ℕ) → List ℕ
name_text name = joined (
    (if length name == 0 then codes "" else codes " [") ∷ escaped Html name
    ∷ (if length name == 0 then codes "" else codes "]") ∷ codes "</td></tr>\n" ∷ [])

-- a line of the log as a row
abbrev pub event_parts : Snapshot → EventView → List (List ℕ)
event_parts s event =
    joined (codes "<tr class=\"" ∷ severity_text event.severity ∷ codes "\"><td class=\"n\">" ∷ [])
    ∷ time_text (time_of s event.moment_ms) ∷ cell ∷ age_text 0 s.now_ms event.moment_ms
    ∷ joined (codes "</td><td class=\"e\">" ∷ escaped Html event.text.bytes ∷ [])
    ∷ name_text (name_about s event.about) ∷ []

abbrev pub text_of_event : Snapshot → EventView → List ℕ
text_of_event s event = joined (event_parts s event)

abbrev pub event_list : Snapshot → List (List ℕ)
event_list s = EVENTS.now ∷ rows (text_of_event s) s.latest.now ∷ []

abbrev pub events_text : Snapshot → List ℕ
events_text s = joined (event_list s)

-- a mark below the chart, at this minute since 1970, so many minutes before now
abbrev pub mark_at : (marked passed : ℕ) → List ℕ
mark_at marked passed = joined (
    codes "<span" ∷ (if marked % 60 == 0 then codes " class=\"h\"" else codes "")
    ∷ codes " style=\"left:" ∷ decimal ((60 - passed) * 100 / 60) ∷ codes "%\">"
    ∷ two_digits (marked / 60 % 24) ∷ codes ":" ∷ two_digits (marked % 60)
    ∷ codes "</span>" ∷ [])

-- the latest quarter of an hour, or one so many minutes before that
abbrev pub mark_text : (minute before : ℕ) → List ℕ
mark_text minute before = mark_at (minute - (minute % 15 + before)) (minute % 15 + before)

abbrev pub mark_parts : (minute : ℕ) → List (List ℕ)
mark_parts minute =
    mark_text minute 45 ∷ mark_text minute 30 ∷ mark_text minute 15 ∷ mark_text minute 0 ∷ []

-- a mark for each quarter of the hour before this minute
abbrev pub quarters_text : (minute : ℕ) → List ℕ
quarters_text minute = joined (mark_parts minute)

-- the same of the last hour, if the time is known
abbrev pub marks_text : Option ℕ → List ℕ
marks_text None = []
marks_text (Some wall) = quarters_text (wall / 60000)

-- how full the queue was in the last hour, up to now at the right
abbrev pub hour_parts : Snapshot → List (List ℕ)
hour_parts s =
    joined (HOUR.now ∷ decimal (60 - length s.queue.hour.now) ∷ codes " 100" ∷ [])
    ∷ rows (text_of_step s.queue.places) s.queue.hour.now
    ∷ joined (
    codes "V100z\"/></svg><b>" ∷ decimal s.queue.places ∷ codes "</b><b>0</b>" ∷ [])
    ∷ marks_text s.wall_ms ∷ []

abbrev pub hour_text : Snapshot → List ℕ
hour_text s = joined (hour_parts s)

-- how all is, row by row
abbrev pub whole_parts : Snapshot → List (List ℕ)
whole_parts s =
    codes "</p>\n<table>\n<tr><th>running for</th><td>" ∷ age_text 0 s.now_ms s.started_ms
    ∷ LINE.now ∷ line_text Html s ∷ age_text 0 s.now_ms s.line.since_ms
    ∷ centre_text s ∷ age_text 0 s.now_ms s.centre.since_ms ∷ state_text s
    ∷ syncs_text SYNCS.now s.syncs ∷ taken_text s ∷ oldest_text s.queue.oldest_ms
    ∷ meter_text s ∷ []

abbrev pub whole_text : Snapshot → List ℕ
whole_text s = joined (whole_parts s)

abbrev pub html_parts : Snapshot → List (List ℕ)
html_parts s =
    head_text s ∷ summary s ∷ whole_text s ∷ stations_text s ∷ events_text s ∷ hour_text s
    ∷ version_text s ∷ rows text_of_setting s.settings.now ∷ END.now ∷ []

abbrev pub html_of : Snapshot → List ℕ
html_of s = joined (html_parts s)
