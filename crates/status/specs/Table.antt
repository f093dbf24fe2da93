-- The snapshot as a table for a terminal (this gateway's own profile).
use Rattle.std.specs.Prelude.{ℕ, ◌/◌, Bool, true, false, List, [], ◌∷◌, length, count_by, codes}
use Rattle.std.specs.Prelude.{if◌then◌else◌}
use Rattle.std.specs.Bool.{beq}
use Rattle.std.specs.Fmt.{decimal}
use Rattle.status.specs.Judge.{is_silent, is_up, unfilled}
use Rattle.status.specs.Labels.{keeping_text, wide_text}
use Rattle.status.specs.Texts.{age_or, age_text, line_text, oldest_seconds, summary}
use Rattle.status.specs.Texts.{syncs_text}
use Rattle.status.specs.Words.{escaped, escaped_or, joined, right, rows}
use Rattle.status.specs.declared.table.TheConstants.{LINE, SYNCS, STATIONS}
use Rattle.status.specs.declared.words.Marks.TheVariants.{Plain}
use Rattle.status.specs.declared.snapshot.StationView.{StationView}
use Rattle.status.specs.declared.snapshot.Snapshot.{Snapshot}

-- whose row it is
abbrev pub row_head : StationView → List ℕ
row_head s = joined (
    right 7 s.address ∷ right 7 s.common_address ∷ codes "  " ∷ wide_text s.standing ∷ [])

-- what was counted of a station, with a space before each number, and its name
abbrev pub count_parts : StationView → List (List ℕ)
count_parts s =
    codes " " ∷ right 8 s.reports ∷ codes " " ∷ right 8 s.skipped
    ∷ codes " " ∷ right 5 s.gaps ∷ codes " " ∷ right 9 s.commands ∷ codes "  "
    ∷ escaped Plain s.name.now ∷ codes "\n" ∷ []

abbrev pub row_counts : StationView → List ℕ
row_counts s = joined (count_parts s)

abbrev pub row_parts : (now : ℕ) → StationView → List (List ℕ)
row_parts now s =
    row_head s ∷ age_text 6 now s.since_ms
    ∷ age_or 10 now s.last_report_ms (codes "         -    ") ∷ row_counts s ∷ []

abbrev pub text_of_row : (now : ℕ) → StationView → List ℕ
text_of_row now s = joined (row_parts now s)

-- the same of a station that doesn't answer, or else of one that does
abbrev pub row_if : (is_so : Bool) → (now : ℕ) → StationView → List ℕ
row_if is_so now s = if beq (is_silent s) is_so then text_of_row now s else []

-- numbers for a monitor (Nagios, performance data)
abbrev pub performance_parts : Snapshot → List (List ℕ)
performance_parts s =
    codes " | stations_up=" ∷ decimal (count_by is_up s.stations.now)
    ∷ codes ";;;0;" ∷ decimal (length s.stations.now)
    ∷ codes " queue=" ∷ decimal s.queue.taken ∷ codes ";" ∷ decimal (s.queue.places / 2)
    ∷ codes ";" ∷ decimal (unfilled s.queue) ∷ codes ";0;" ∷ decimal s.queue.places
    ∷ codes " oldest=" ∷ decimal (oldest_seconds s.queue) ∷ codes "s;;;0" ∷ []

abbrev pub performance : Snapshot → List ℕ
performance s = joined (performance_parts s)

abbrev pub version_text : Snapshot → List ℕ
version_text s = joined (
    codes "\n\nversion         " ∷ escaped Plain s.version.now ∷ codes "\nrunning for     " ∷ [])

abbrev pub centre_text : Snapshot → List ℕ
centre_text s = joined (
    codes "\ncontrol centre  " ∷ escaped_or Plain s.centre.peer (codes "not connected")
    ∷ (if s.centre.is_started then codes ", started" else codes "") ∷ codes " for " ∷ [])

abbrev pub queue_parts : Snapshot → List (List ℕ)
queue_parts s =
    codes "\nqueue           " ∷ decimal s.queue.taken ∷ codes " of " ∷ decimal s.queue.places
    ∷ codes "\nstate           " ∷ keeping_text s.keeping ∷ []

abbrev pub queue_text : Snapshot → List ℕ
queue_text s = joined (queue_parts s)

abbrev pub table_parts : Snapshot → List (List ℕ)
table_parts s =
    summary s ∷ performance s ∷ version_text s ∷ age_text 0 s.now_ms s.started_ms
    ∷ LINE.now ∷ line_text Plain s ∷ age_text 0 s.now_ms s.line.since_ms
    ∷ centre_text s ∷ age_text 0 s.now_ms s.centre.since_ms
    ∷ queue_text s ∷ syncs_text SYNCS.now s.syncs ∷ STATIONS.now
    ∷ rows (row_if true s.now_ms) s.stations.now ∷ rows (row_if false s.now_ms) s.stations.now ∷ []

abbrev pub table_of : Snapshot → List ℕ
table_of s = joined (table_parts s)
