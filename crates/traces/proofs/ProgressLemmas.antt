-- A port over the text of a trace, call by call.
use Rattle.std.proofs.Common.{◌≡◌, ℕ, ◌+◌, Bool, true, false, not, length, arith, List, [], ◌∷◌}
use Rattle.std.proofs.Common.{◌++◌, take, Option, Some, None, refl, ap, sym, ◌∙◌, subst}
use Rattle.std.proofs.Common.{append_assoc}
use Rattle.std.specs.List.{AllByRecursion}
use Rattle.gateway.specs.Log.{Log, Came, Input, LineIn, Opened, TcpIn, CutOff, Ticked, WallIs}
use Rattle.gateway.specs.Log.{events_of}
use Rattle.gateway.specs.Ports.{logged_by}
use Rattle.gateway.specs.Entries.{event_of as entry_event}
use Rattle.gateway.specs.declared.entries.Entry.{Entry}
use Rattle.gateway.specs.declared.entries.Entry.TheVariants.{Line, Open, Bytes, Cut, Tick, Wall}
use Rattle.gateway.specs.declared.ports.Next.{Next}
use Rattle.gateway.specs.declared.ports.Next.TheVariants as answers
use Rattle.traces.specs.Event.{Event, event_of, event_in}
use Rattle.traces.specs.Fields.{parts_after}
use Rattle.traces.specs.FirstLines.{first_line, later_lines}
use Rattle.traces.specs.Progress.{came, events_in, script_in, IsRight, Progress, Standing}
use Rattle.traces.specs.Progress.{events_left, events_of_part, coming_in, IsProgress}
use Rattle.traces.specs.Progress.{logs_event}
use Rattle.traces.specs.Trace.{lines_of, is_skipped, logged, first_wrong}
use Rattle.traces.proofs.FirstLineLemmas.{lines_first}

-- Lines

-- an entry of a trace and the event that it is
pub came_entry : (entry : Entry) → came (event_of entry) ≡ entry_event entry
came_entry (Line now octets) = refl
came_entry (Open now) = refl
came_entry (Bytes now octets) = refl
came_entry (Cut now) = refl
came_entry (Tick now) = refl
came_entry (Wall now number) = refl

-- a skipped line logs no event
pub events_skip : (lines rest : List (List ℕ)) (line : List ℕ) → lines ≡ line ∷ rest
    → is_skipped line ≡ true
    → events_in rest ≡ events_in lines
events_skip lines rest line is e = rw (is, e)

-- if each line is right, none is wrong
pub none_wrong : (n : ℕ) (lines : List (List ℕ)) → AllByRecursion IsRight lines
    → first_wrong n lines ≡ None
none_wrong n [] all = refl
none_wrong n (line ∷ lines) all = rw all.0 (none_wrong (n + 1) lines all.1)

-- a skipped line is right, and so is one that is an event
pub right_skip : (lines rest : List (List ℕ)) (line : List ℕ) → lines ≡ line ∷ rest
    → is_skipped line ≡ true
    → AllByRecursion IsRight rest → AllByRecursion IsRight lines
right_skip lines rest line is skipped all =
    let right : IsRight line = rw skipped refl in
    subst (AllByRecursion IsRight) (sym is) (right, all)

pub right_event : (lines rest : List (List ℕ)) (line : List ℕ) (event : Event) → lines ≡ line ∷ rest
    → is_skipped line ≡ false → event_in line ≡ Some event → AllByRecursion IsRight rest
    → AllByRecursion IsRight lines
right_event lines rest line event is logged some all =
    let right : IsRight line = rw (logged, some) refl in
    subst (AllByRecursion IsRight) (sym is) (right, all)

-- a line more was judged
counted_next : (n m : ℕ) (lines rest : List (List ℕ)) (line : List ℕ) → lines ≡ line ∷ rest
    → n + length lines ≡ m → n + 1 + length rest ≡ m
counted_next n m lines rest line is counted =
    let one : length lines ≡ length (line ∷ rest) = ap length is in
    omega (arith, one, counted)

pub judged_next : (n m : ℕ) (left rest : Option (List ℕ)) (text : List ℕ) → left ≡ Some text
    → later_lines text ≡ parts_after 10 rest → n + length (parts_after 10 left) ≡ m
    → n + 1 + length (parts_after 10 rest) ≡ m
judged_next n m left rest text is later counted =
    counted_next n m (parts_after 10 left) (parts_after 10 rest) (first_line text)
    (ap (parts_after 10) is ∙ lines_first text ∙ ap (λ ls. first_line text ∷ ls) later) counted

-- The port

-- a part begins
pub begun : (text : List ℕ) (s : Standing) (earlier : Log) → earlier ≡ s.log
    → IsProgress (record {
      part = record { text = text; is_first = not s.started; earlier = earlier };
      left = Some text;
      started = s.started;
      log = s.log;
      poured = s.poured;
      page = s.page;
      failed = s.failed;
    })
begun text s earlier same = record {
  whole = by s.started;
  right = none_wrong 1 (lines_of text);
  first = λ fresh. refl;
}
  where
    by : (b : Bool) → events_of s.log ++ events_left b text (Some text) ≡ events_of earlier
        ++ events_of_part (not b) text
    by true = ap (λ log. events_of log ++ events_in (lines_of text)) (sym same)
    by false = ap (λ log. events_of log ++ script_in text) (sym same)

-- an event came
event_came : (p : Progress) (left : Option (List ℕ)) (started : Bool) (now : ℕ) (event : Input)
    → IsProgress p → started ≡ true → Came now event ∷ events_in (parts_after 10 left) ≡ coming_in p
    → (AllByRecursion IsRight (parts_after 10 left) → first_wrong 1 (lines_of p.part.text) ≡ None) →
    IsProgress (record p { left = left; started = started; log = Came now event ∷ p.log })
event_came p left started now event holds begun logged right = record {
  whole =
      append_assoc (events_of p.log) (Came now event ∷ []) (events_left started p.part.text left)
      ∙ ap (λ es. events_of p.log ++ Came now event ∷ es) same
      ∙ ap (λ es. events_of p.log ++ es) logged ∙ holds.whole;
  right = right;
  first = λ fresh. absurd (not_fresh started begun fresh);
}
  where
    same : events_left started p.part.text left ≡ events_in (parts_after 10 left)
    same = rw begun refl

    not_fresh : (b : Bool) → b ≡ true → b ≡ false → ⊥
    not_fresh true is fresh = cc
    not_fresh false is fresh = cc

pub logged_next : (p : Progress) (left : Option (List ℕ)) (started : Bool) (next : Next)
    (buf : List ℕ) → IsProgress p → started ≡ true → logs_event next ≡ true →
    logged_by next buf ++ events_in (parts_after 10 left) ≡ coming_in p
    → (AllByRecursion IsRight (parts_after 10 left) → first_wrong 1 (lines_of p.part.text) ≡ None)
    → IsProgress (record p { left = left; started = started; log = logged_by next buf ++ p.log })
logged_next p left started (answers.Line now len) buf holds begun is logged right =
    event_came p left started now (LineIn (take len buf)) holds begun logged right
logged_next p left started (answers.Open now) buf holds begun is logged right =
    event_came p left started now Opened holds begun logged right
logged_next p left started (answers.Bytes now len) buf holds begun is logged right =
    event_came p left started now (TcpIn (take len buf)) holds begun logged right
logged_next p left started (answers.Cut now) buf holds begun is logged right =
    event_came p left started now CutOff holds begun logged right
logged_next p left started (answers.Tick now) buf holds begun is logged right =
    event_came p left started now Ticked holds begun logged right
logged_next p left started (answers.Wall now number) buf holds begun is logged right =
    event_came p left started now (WallIs number) holds begun logged right
logged_next p left started answers.Done buf holds begun is logged right = cc
logged_next p left started answers.Fault buf holds begun is logged right = cc
