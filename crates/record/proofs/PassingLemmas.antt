-- The lines of a record, passed one after another.
use Rattle.std.proofs.Common.{◌≡◌, ℕ, ◌+◌, ◌≤◌, ◌==◌, ◌&&◌, not, cond, Bool, true, false}
use Rattle.std.proofs.Common.{if◌then◌else◌, length, map, take, List, [], ◌∷◌, ◌++◌, Option, Some}
use Rattle.std.proofs.Common.{None, refl, ap, sym, ◌∙◌, subst, arith}
use Rattle.std.proofs.lemmas.List.Sums.{sum_by-cons}
use Rattle.std.specs.List.{AllByRecursion, count_by, slice_split, cons_option}
use Rattle.std.specs.Option.{is_none}
use Rattle.gateway.specs.Log.{LogEntry, Came, LineIn, Opened, TcpIn, CutOff, Ticked, WallIs}
use Rattle.gateway.specs.Ports.{logged_by}
use Rattle.gateway.specs.declared.ports.Next.{Next}
use Rattle.gateway.specs.declared.ports.Next.TheVariants as answers
use Rattle.traces.specs.Event.{Event, event_in}
use Rattle.traces.specs.Fields.{parts_after}
use Rattle.traces.specs.Progress.{IsFirst, IsRight, came, events_in, logs_event}
use Rattle.traces.specs.Trace.{is_skipped, is_wrong, lines_of, logged}
use Rattle.traces.proofs.JoinedLemmas.{events_joined}
use Rattle.record.specs.Passing.{IsKind, IsNext, IsOneLine, Passes}
use Rattle.record.specs.Lines.{event_line, event_lines, is_action, is_cut, is_marked}
use Rattle.record.specs.declared.audit.passing.LineKind.TheVariants as kinds
use Rattle.record.specs.declared.audit.passing.LineCounts.{LineCounts}

-- One line

pub uncut_action : (line : List ℕ) (b : Bool) → is_cut line ≡ false
    → is_marked (slice_split (λ b. b == 32) line) ≡ b
    → is_action line ≡ b
uncut_action line b uncut is =
    ap (λ (b : Bool). if b then false else is_marked (slice_split (λ b. b == 32) line)) uncut ∙ is

pub action_line : (line : List ℕ) → is_action line ≡ true → event_line line ≡ []
action_line line is = ap (λ (b : Bool). if b then [] else if is_cut line then [] else line) is

pub plain_line : (line : List ℕ) → is_cut line ≡ false → is_action line ≡ false → event_line line
    ≡ line
plain_line line uncut is =
    ap (λ (b : Bool). if b then [] else if is_cut line then [] else line) is
    ∙ ap (λ (b : Bool). if b then [] else line) uncut

-- What a line logs

right_logged : (line : List ℕ) (event : Event) → logged line ≡ Some event → is_wrong line ≡ false
right_logged line event = by (is_skipped line) (event_in line)
  where
    by : (skipped : Bool) (o : Option Event) → (if skipped then None else o) ≡ Some event
        → (not skipped && is_none o) ≡ false
    by true o h = cc
    by false None h = cc
    by false (Some e) h = refl

-- a line that logs an event logs that alone
one_event : (line : List ℕ) (x : LogEntry) (more : List LogEntry) → (x ∷ []) ++ more
    ≡ events_in (line ∷ [])
    → (x ∷ [] ≡ events_in (line ∷ [])) × (is_wrong line ≡ false)
one_event line x more is = by (logged line) refl is
  where
    by : (o : Option Event) → logged line ≡ o → x ∷ more ≡ map came (cons_option o [])
        → (x ∷ [] ≡ map came (cons_option o [])) × (is_wrong line ≡ false)
    by None none h = cc
    by (Some event) some h =
        let same : x ≡ came event = cc in
        (ap (λ e. e ∷ []) same, right_logged line event some)

event_with : (line buf : List ℕ) (left : Option (List ℕ)) (next : Next) (x : LogEntry) → is_cut line
    ≡ false
    → is_action line ≡ false → IsOneLine line → IsFirst (lines_of line) left next buf
    → logs_event next ≡ true
    → logged_by next buf ≡ x ∷ [] → IsKind line buf (kinds.Event next)
event_with line buf left next x uncut plain one first logs is =
    let whole : event_line line ≡ line = plain_line line uncut plain in
    let both : (x ∷ []) ++ events_in (parts_after 10 left) ≡ events_in (line ∷ []) =
    ap (λ es. es ++ events_in (parts_after 10 left)) (sym is) ∙ first.logged logs
    ∙ ap events_in one in
    let found = one_event line x (events_in (parts_after 10 left)) both in (
      plain,
      is ∙ found.0 ∙ ap (λ l. events_in (l ∷ [])) (sym whole),
      logs,
      first.fits,
      ap is_wrong whole ∙ found.1,
    )

pub kind_event : (line buf : List ℕ) (left : Option (List ℕ)) (next : Next) → is_cut line ≡ false
    → is_action line ≡ false
    → IsOneLine line → IsFirst (lines_of line) left next buf → (next ≡ answers.Done → ⊥)
    → (next ≡ answers.Fault → ⊥)
    → IsKind line buf (kinds.Event next)
kind_event line buf left (answers.Line now len) uncut plain one first some right =
    event_with line buf left (answers.Line now len) (Came now (LineIn (take len buf))) uncut plain
    one first refl refl
kind_event line buf left (answers.Open now) uncut plain one first some right =
    event_with line buf left (answers.Open now) (Came now Opened) uncut plain one first refl refl
kind_event line buf left (answers.Bytes now len) uncut plain one first some right =
    event_with line buf left (answers.Bytes now len) (Came now (TcpIn (take len buf))) uncut plain
    one first refl refl
kind_event line buf left (answers.Cut now) uncut plain one first some right =
    event_with line buf left (answers.Cut now) (Came now CutOff) uncut plain one first refl refl
kind_event line buf left (answers.Tick now) uncut plain one first some right =
    event_with line buf left (answers.Tick now) (Came now Ticked) uncut plain one first refl refl
kind_event line buf left (answers.Wall now number) uncut plain one first some right =
    event_with line buf left (answers.Wall now number) (Came now (WallIs number)) uncut plain one
    first refl refl
kind_event line buf left answers.Done uncut plain one first some right = absurd (some refl)
kind_event line buf left answers.Fault uncut plain one first some right = absurd (right refl)

-- an answer gives one event
one_logged : (next : Next) (buf : List ℕ) → logs_event next ≡ true → length (logged_by next buf) ≡ 1
one_logged (answers.Line now len) buf logs = refl
one_logged (answers.Open now) buf logs = refl
one_logged (answers.Bytes now len) buf logs = refl
one_logged (answers.Cut now) buf logs = refl
one_logged (answers.Tick now) buf logs = refl
one_logged (answers.Wall now number) buf logs = refl
one_logged answers.Done buf logs = cc
one_logged answers.Fault buf logs = cc

-- Lines

-- a line more was passed
passes_line : (news : List LogEntry) (lines left rest : List (List ℕ)) (line : List ℕ)
    (before now after : LineCounts)
    → Passes [] lines before left now → left ≡ line ∷ rest → news ≡ events_in (event_line line ∷ [])
    → IsRight (event_line line) → after.lines ≡ now.lines + 1 → after.events
    ≡ now.events + length news
    → after.actions + count_by is_action rest ≡ now.actions + count_by is_action (line ∷ rest)
    → Passes news lines before rest after
passes_line news lines left rest line before now after h is logs right one some counts = record {
  logged = ap (λ es. es ++ events_in (event_lines rest)) logs
      ∙ sym (events_joined (event_line line ∷ []) (event_lines rest))
      ∙ ap (λ ls. events_in (event_lines ls)) (sym is) ∙ h.logged;
  right =
      λ all. h.right (subst (λ (ls : List (List ℕ)). AllByRecursion IsRight (event_lines ls))
      (sym is) (right, all));
  counted = let all : length left ≡ length (line ∷ rest) = ap length is in
      omega (arith, all, one, h.counted);
  events = omega (arith, some, h.events);
  actions = counts ∙ ap (λ ls. now.actions + count_by is_action ls) (sym is) ∙ h.actions;
}

count_yes : (n : ℕ) (line : List ℕ) (rest : List (List ℕ)) → is_action line ≡ true
    → n + 1 + count_by is_action rest ≡ n + count_by is_action (line ∷ rest)
count_yes n line rest is =
    let all : count_by is_action (line ∷ rest) ≡ 1 + count_by is_action rest =
    sum_by-cons (λ x. cond (is_action x) 1 0) line rest
    ∙ ap (λ (b : Bool). cond b 1 0 + count_by is_action rest) is in
    omega (arith, all)

count_no : (n : ℕ) (line : List ℕ) (rest : List (List ℕ)) → is_action line ≡ false
    → n + count_by is_action rest ≡ n + count_by is_action (line ∷ rest)
count_no n line rest is =
    let all : count_by is_action (line ∷ rest) ≡ 0 + count_by is_action rest =
    sum_by-cons (λ x. cond (is_action x) 1 0) line rest
    ∙ ap (λ (b : Bool). cond b 1 0 + count_by is_action rest) is in
    omega (arith, all)

module _ (lines left rest : List (List ℕ)) (line : List ℕ) (before : LineCounts) (n e a : ℕ)
    (h : Passes [] lines before left (record { lines = n; events = e; actions = a })) (is : left
    ≡ line ∷ rest) where
  pub passes_action : is_action line ≡ true
      → Passes [] lines before rest (record { lines = n + 1; events = e; actions = a + 1 })
  passes_action marked =
      let none : event_line line ≡ [] = action_line line marked in
      passes_line [] lines left rest line before _ _ h is (sym (ap (λ l. events_in (l ∷ [])) none))
      (ap is_wrong none) refl
      (omega arith) (count_yes a line rest marked)

  pub passes_neither : (buf : List ℕ) → IsKind line buf kinds.Neither
      → Passes [] lines before rest (record { lines = n + 1; events = e; actions = a })
  passes_neither buf kind =
      passes_line [] lines left rest line before _ _ h is (sym kind.1) kind.2 refl (omega arith)
      (count_no a line rest kind.0)

  pub passes_event : (next : Next) (buf : List ℕ) → IsKind line buf (kinds.Event next)
      → Passes (logged_by next buf) lines before rest
      (record { lines = n + 1; events = e + 1; actions = a })
  passes_event next buf kind =
      passes_line (logged_by next buf) lines left rest line before _ _ h is kind.1 kind.4 refl
      (ap (λ k. e + k) (sym (one_logged next buf kind.2))) (count_no a line rest kind.0)

  pub event_next : (next : Next) (buf : List ℕ) (behind : Option (List ℕ))
      → rest ≡ parts_after 10 behind
      → IsKind line buf (kinds.Event next) → e + a ≤ n
      → IsNext lines before next buf behind (record { lines = n + 1; events = e + 1; actions = a })
  event_next next buf behind same kind few = record {
    passes =
        subst (λ (ls : List (List ℕ)). Passes (logged_by next buf) lines before ls
        (record { lines = n + 1; events = e + 1; actions = a }))
        same (passes_event next buf kind);
    done = λ over. let logs : logs_event next ≡ true = kind.2 in
        let none : logs_event next ≡ false = ap logs_event over in
        cc;
    fits = kind.3;
    few = omega (arith, few);
  }
