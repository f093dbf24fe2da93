-- Lines none of which is left out silently: what came is gathered, and the next line of its kind
-- says the last of it, and how many came before (this gateway's own profile).
use Rattle.std.specs.Prelude.{ℕ, ◌+◌, List, [], ◌∷◌, Option, Some, None, is_some, if◌then◌else◌}
use Rattle.runlog.specs.Ends.{changed, new_limit}
use Rattle.runlog.specs.Limits.{is_minute_after, one_left}
use Rattle.runlog.specs.declared.limit.Limit.{Limit}
use Rattle.runlog.specs.declared.note.LogLine.{LogLine}
use Rattle.runlog.specs.declared.note.Note.{Note}
use Rattle.runlog.specs.declared.gathered.Gathered.{Gathered}

abbrev pub nothing : Gathered
nothing = record { limit = new_limit; last = None; came = 0 }

abbrev pub left_out : (now : ℕ) → Limit → Limit
left_out now limit = record limit { left_out = one_left now limit.left_out }

abbrev pub added : Note → (now : ℕ) → Gathered → Gathered
added what now g = record {
  limit = if is_some g.last then left_out g.came g.limit else g.limit;
  last = Some what;
  came = now;
}

abbrev pub logged_by : Limit × Option LogLine → Gathered → Gathered × Option LogLine
logged_by (limit, None) g = (record g { limit = limit }, None)
logged_by (limit, Some line) g =
    (record g { limit = limit; last = None }, Some (record line { moment = g.came }))

abbrev pub line_by : Option Note → ℕ → Gathered → Gathered × Option LogLine
line_by None now g = (g, None)
line_by (Some what) now g = logged_by (changed what g.limit now) g

-- the line of the last that came, with its own moment, once a second has passed since the one
-- before was logged
abbrev pub line_of : ℕ → Gathered → Gathered × Option LogLine
line_of now g = line_by g.last now g

-- and if a minute has passed
abbrev pub minute_line_of : ℕ → Gathered → Gathered × Option LogLine
minute_line_of now g = if is_minute_after g.limit.logged now then line_of now g else (g, None)

-- ---- The law: of any calls

pub data GatheringCall : Type 0 where
  Add : Note → (now : ℕ) → GatheringCall
  Look : (now : ℕ) → GatheringCall

-- the moments at which lines were logged, and how many each says that were left out before it
abbrev pub with_line : Option LogLine → (now : ℕ) → List (ℕ × ℕ) → List (ℕ × ℕ)
with_line None now logged = logged
with_line (Some line) now logged = (now, line.left_out.count) ∷ logged

abbrev pub lines_in : Gathered → List GatheringCall → List (ℕ × ℕ)
lines_in g [] = []
lines_in g (Add what at ∷ calls) = lines_in (added what at g) calls
lines_in g (Look now ∷ calls) =
    with_line (line_of now g).1 now (lines_in (line_of now g).0 calls)

abbrev pub left_in : Gathered → List GatheringCall → Gathered
left_in g [] = g
left_in g (Add what at ∷ calls) = left_in (added what at g) calls
left_in g (Look now ∷ calls) = left_in (line_of now g).0 calls

-- how many came
abbrev pub added_in : List GatheringCall → ℕ
added_in [] = 0
added_in (Add what at ∷ calls) = added_in calls + 1
added_in (Look now ∷ calls) = added_in calls

-- how many are gathered and not logged
abbrev pub count_by : Option Note → ℕ → ℕ
count_by None left_out = left_out
count_by (Some what) left_out = left_out + 1

abbrev pub count_of : Gathered → ℕ
count_of g = count_by g.last g.limit.left_out.count
