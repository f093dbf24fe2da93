-- Texts that more than one page has (this gateway's own profile).
use Rattle.std.specs.Prelude.{ℕ, ◌-◌, ◌/◌, ◌==◌, nat_lt, Bool, not, List, [], ◌∷◌, length, count_by}
use Rattle.std.specs.Prelude.{Option, Some, None, codes, if◌then◌else◌, unwrap_or}
use Rattle.std.specs.Option.{is_some}
use Rattle.std.specs.Fmt.{decimal}
use Rattle.live.specs.declared.syncs.SyncTimes.{SyncTimes}
use Rattle.status.specs.Words.{escaped, escaped_behind, joined, right}
use Rattle.status.specs.Judge.{cannot_keep, has_gone, is_awaited, is_full, is_off, is_up}
use Rattle.status.specs.Judge.{judgement_of, keeps}
use Rattle.status.specs.Labels.{judgement_text}
use Rattle.status.specs.declared.words.Marks.{Marks}
use Rattle.status.specs.declared.words.Marks.TheVariants.{Plain}
use Rattle.status.specs.declared.snapshot.Queue.{Queue}
use Rattle.status.specs.declared.snapshot.Snapshot.{Snapshot}

-- a text if that is so
abbrev pub text_if : Bool → List ℕ → List ℕ
text_if is_so text = if is_so then text else codes ""

-- what the state calls for, and what is wrong, the cause of all else first
abbrev pub trouble_parts : Snapshot → List (List ℕ)
trouble_parts s =
    judgement_text (judgement_of s) ∷ codes ": "
    ∷ text_if (has_gone s.line) (codes "line lost")
    ∷ text_if (is_awaited s.line) (codes "line not there yet")
    ∷ escaped_behind Plain (codes ": ") s.line.cause
    ∷ text_if (not s.line.is_there) (codes "; ")
    ∷ (if is_some s.centre.peer then codes "" else codes "control centre not connected; ")
    ∷ text_if (is_full s.queue) (codes "queue full, nothing is polled; ")
    ∷ text_if (cannot_keep s.keeping) (codes "state isn't kept")
    ∷ escaped_behind Plain (codes ": ") s.lost_by
    ∷ text_if (cannot_keep s.keeping) (codes "; ") ∷ []

abbrev pub troubles : Snapshot → List ℕ
troubles s = joined (trouble_parts s)

-- how all stands: what is wrong stands before it
abbrev pub standings : Snapshot → List ℕ
standings s = joined (
    decimal (count_by is_up s.stations.now)
    ∷ codes " of " ∷ decimal (length s.stations.now) ∷ codes " stations up"
    ∷ text_if s.line.is_there (codes ", line there")
    ∷ text_if (is_some s.centre.peer) (codes ", control centre connected")
    ∷ codes ", queue " ∷ decimal s.queue.taken ∷ codes " of " ∷ decimal s.queue.places
    ∷ text_if (keeps s.keeping) (codes ", state kept")
    ∷ text_if (is_off s.keeping) (codes ", state none") ∷ [])

-- one line in words
abbrev pub summary_parts : Snapshot → List (List ℕ)
summary_parts s = troubles s ∷ standings s ∷ []

abbrev pub summary : Snapshot → List ℕ
summary s = joined (summary_parts s)

-- what stands behind a name, if there is one
abbrev pub comma_behind : (name : List ℕ) → List ℕ
comma_behind name = if length name == 0 then [] else codes ", "

-- how the line is, with what stands before since when
abbrev pub line_text : Marks → Snapshot → List ℕ
line_text marks s = joined (
    escaped marks s.name.now ∷ comma_behind s.name.now
    ∷ text_if s.line.is_there (codes "there")
    ∷ text_if (has_gone s.line) (codes "lost")
    ∷ text_if (is_awaited s.line) (codes "not there yet")
    ∷ codes " for " ∷ [])

-- which syncs of the state were slow, behind this, if any was
abbrev pub syncs_text : (before : List ℕ) → SyncTimes → List ℕ
syncs_text before s =
    if s.count == 0 then [] else joined (
    before ∷ decimal s.count ∷ codes ", the last " ∷ decimal s.last_ms
    ∷ codes " ms, the longest " ∷ decimal s.longest_ms ∷ codes " ms" ∷ [])

-- whole seconds between two moments in ms
abbrev pub seconds : (now since : ℕ) → ℕ
seconds now since = (now - since) / 1000

-- how many seconds, minutes, hours or days that is
abbrev pub age_count : ℕ → ℕ
age_count s =
    if nat_lt s 120 then s else if nat_lt s 7200 then s / 60
    else if nat_lt s 172800 then s / 3600 else s / 86400

abbrev pub age_unit : ℕ → List ℕ
age_unit s =
    if nat_lt s 120 then codes " s  " else if nat_lt s 7200 then codes " min"
    else if nat_lt s 172800 then codes " h  " else codes " d  "

-- for how many whole seconds the oldest report of the queue has waited at least, 0 if none is there
abbrev pub oldest_seconds : Queue → ℕ
oldest_seconds q = seconds (unwrap_or q.oldest_ms 0) 0

-- the same behind how many places are taken, if a report is there
abbrev pub wait_text : (seconds : ℕ) → List ℕ
wait_text s = joined (
    codes ", the oldest for at least " ∷ decimal (age_count s) ∷ age_unit s ∷ [])

abbrev pub oldest_text : Option ℕ → List ℕ
oldest_text None = []
oldest_text (Some oldest) = wait_text (seconds oldest 0)

-- how long ago a moment is, in a column of this width
abbrev pub age_text : (width now since : ℕ) → List ℕ
age_text width now since =
    joined (right width (age_count (seconds now since)) ∷ age_unit (seconds now since) ∷ [])

-- the same of a moment that may not be
abbrev pub age_or : (width now : ℕ) → Option ℕ → (other : List ℕ) → List ℕ
age_or width now (Some since) other = age_text width now since
age_or width now None other = other
