-- A text that is read part by part: judged, and run.
use Rattle.std.proofs.Common.{◌≡◌, ◌⊎◌, inl, inr, ℕ, ◌+◌, Bool, true, false, not, List, [], ◌∷◌}
use Rattle.std.proofs.Common.{◌++◌, length, Option, Some, None, refl, ap, sym, subst, ◌∙◌}
use Rattle.std.proofs.Common.{append_assoc, ◌&&◌, arith}
use Rattle.std.proofs.lemmas.List.{append-nil, length-append}
use Rattle.std.specs.Option.{is_none}
use Rattle.std.specs.Prelude.{IfSome}
use Rattle.std.specs.Io.KnownBytes.{Keeps}
use Rattle.traces.specs.Blocks.{AreCutOff, IsGiven, Reading}
use Rattle.gateway.specs.Agrees.{Follows}
use Rattle.gateway.specs.Log.{Log, LogEntry, events_of}
use Rattle.gateway.specs.Reports.{Setup}
use Rattle.gateway.specs.Runs.{MoreEvents}
use Rattle.gateway.specs.State.{State}
use Rattle.gateway.specs.Traffic.{IsFaithful, HasRested}
use Rattle.sim.specs.Runs.{IsBegun}
use Rattle.traces.specs.Actions.{lines_of_actions}
use Rattle.traces.specs.Progress.{Part, Progress, Standing, AreRight, coming_in, events_in}
use Rattle.traces.specs.Progress.{events_left, events_of_part, is_through, script_of}
use Rattle.traces.specs.Trace.{lines_of, first_wrong}
use Rattle.telegate.specs.Manners.{AreLines}
use Rattle.telegate.specs.Parts.{IsJudgedFault, IsLineFault, IsRightText, IsWrongText, GoesOn}
use Rattle.telegate.specs.Parts.{StaysFaithful, IsClearPause, IsPartRun, IsPartStopped, IsPartsRun}
use Rattle.telegate.specs.Parts.{IsPartRead, IsStoppedOver, part_behind}
use Rattle.telegate.specs.Printed.{IsPoured}
use Rattle.telegate.specs.Records.{behind_tick, lines_read, script_read}
use Rattle.telegate.specs.Source.{Gives}
use Rattle.telegate.specs.declared.fault.Fault.{Fault}
use Rattle.telegate.specs.declared.fault.Fault.TheVariants.{Trace, NoMemory}
use Rattle.telegate.proofs.Kept.{keeps_same}
use Rattle.traces.proofs.Poured.{appends_none, poured_begun}
use Rattle.traces.proofs.JoinedLemmas.{events_joined, lines_joined, wrong_behind, wrong_before}
use Rattle.traces.proofs.JoinedLemmas.{none_wrong_from}
use Rattle.record.specs.Lines.{event_lines, whole_lines}
use Rattle.record.proofs.LineLemmas.{whole_joined}
use Rattle.record.proofs.RunLemmas.{lines_behind}
use Rattle.telegate.proofs.TextLemmas.{few_events}

-- What is left

-- what is known to come behind the text that was read so far
abbrev pub IsRest : Option (List ℕ) → (before : List ℕ) → Option (List ℕ) → Type 0
IsRest None before coming = Unit {0}
IsRest (Some text) before None = ⊥
IsRest (Some text) before (Some rest) = text ≡ before ++ rest

-- at first all of it
pub rest_begins : (known : Option (List ℕ)) → IsRest known [] known
rest_begins None = tt
rest_begins (Some text) = refl

-- these lines, a line feed, and more
pub joined : (before lines t : List ℕ) → (before ++ (lines ++ 10 ∷ [])) ++ t
    ≡ before ++ (lines ++ 10 ∷ t)
joined before lines t = append_assoc before (lines ++ 10 ∷ []) t
    ∙ ap (λ xs. before ++ xs) (append_assoc lines (10 ∷ []) t)

pub rest_behind : (known coming later : Option (List ℕ)) (before lines : List ℕ)
    → IsRest known before coming
    → IfSome coming (λ text. AreCutOff text lines false later)
    → IsRest known (before ++ (lines ++ 10 ∷ [])) later
rest_behind None coming later before lines is cut = tt
rest_behind (Some text) None later before lines is cut = absurd is
rest_behind (Some text) (Some rest) None before lines is cut = absurd cut
rest_behind (Some text) (Some rest) (Some l) before lines is cut =
    is ∙ ap (λ xs. before ++ xs) cut ∙ sym (joined before lines l)

pub rest_last : (known coming later : Option (List ℕ)) (before lines : List ℕ)
    → IsRest known before coming
    → IfSome coming (λ text. AreCutOff text lines true later) → Gives known (before ++ lines)
rest_last None coming later before lines is cut = tt
rest_last (Some text) None later before lines is cut = absurd is
rest_last (Some text) (Some rest) later before lines is cut = is ∙ ap (λ xs. before ++ xs) cut

pub rest_some : (known coming : Option (List ℕ)) (before : List ℕ) → IsRest known before coming
    → (t : List ℕ) × Gives known (before ++ t)
rest_some None coming before is = ([], tt)
rest_some (Some text) None before is = absurd is
rest_some (Some text) (Some rest) before is = (rest, is)

-- a line feed follows these lines, and more
pub rest_more : (known coming later : Option (List ℕ)) (before lines : List ℕ)
    → IsRest known before coming
    → IfSome coming (λ text. AreCutOff text lines false later)
    → (more : List ℕ) × Gives known (before ++ (lines ++ 10 ∷ more))
rest_more None coming later before lines is cut = ([], tt)
rest_more (Some text) None later before lines is cut = absurd is
rest_more (Some text) (Some rest) None before lines is cut = absurd cut
rest_more (Some text) (Some rest) (Some l) before lines is cut =
    (l, is ∙ ap (λ xs. before ++ xs) cut)

-- What is read of a block

-- of a trace its lines
pub trace_part : (lines : List ℕ) (is_over : Bool) → IsPartRead false lines is_over lines
trace_part lines is_over = record {
  before_more = λ goes more. lines_joined lines more;
  last_events = λ over. refl;
  last_wrong = λ over first. refl;
}

-- of a record those of its events
module _ (lines part : List ℕ) where
  events_more : lines_of part ≡ event_lines (lines_of lines) → (more : List ℕ)
      → lines_read true (lines ++ 10 ∷ more) ≡ lines_of part ++ lines_read true more
  events_more are more =
      ap event_lines (whole_joined lines more)
      ∙ lines_behind (lines_of lines) (whole_lines more)
      ∙ ap (λ (ls : List (List ℕ)). ls ++ event_lines (whole_lines more)) (sym are)

  -- before more comes
  pub record_part : lines_of part ≡ event_lines (lines_of lines)
      → IsPartRead true lines false part
  record_part are = record {
    before_more = λ goes more. events_more are more;
    last_events = λ over. cc;
    last_wrong = λ over first. cc;
  }

  -- and at the end, when a line feed ends some of its lines, or none
  pub last_part : lines_of part ≡ event_lines (whole_lines lines)
      → IsPartRead true lines true part
  last_part are = record {
    before_more = λ goes more. cc;
    last_events = λ over. ap events_in (sym are);
    last_wrong = λ over first. ap (first_wrong first) (sym are);
  }

  pub no_part : part ≡ [] → whole_lines lines ≡ [] → IsPartRead true lines true part
  no_part none whole = record {
    before_more = λ goes more. cc;
    last_events = λ over. ap (λ (ls : List (List ℕ)). events_in (event_lines ls)) whole
        ∙ ap (λ (xs : List ℕ). events_in (lines_of xs)) (sym none);
    last_wrong = λ over first.
        ap (λ (ls : List (List ℕ)). first_wrong first (event_lines ls)) whole
        ∙ ap (λ (xs : List ℕ). first_wrong first (lines_of xs)) (sym none);
  }

-- a block with these lines was cut off what was still to come
pub cut_as : (block : Reading) (lines : List ℕ) (coming : Option (List ℕ)) → lines ≡ block.lines
    → IfSome coming (λ text. IsGiven text block) → (over : Bool) → block.is_over ≡ over
    → IfSome coming (λ text. AreCutOff text lines over block.coming)
cut_as block lines coming same cut over is =
    subst (λ (o : Bool). IfSome coming (λ text. AreCutOff text lines o block.coming)) is
    (subst (λ (ls : List ℕ). IfSome coming (λ text. AreCutOff text ls block.is_over block.coming))
    (sym same) cut)

-- Judging

-- a text was judged as far as it was read, and the line that comes next has this number
pub record IsJudgedTo (r : Bool) (known coming : Option (List ℕ)) (next : ℕ) : Type 0 where
  pub before : List ℕ
  pub rest : IsRest known before coming
  pub wrong : (t : List ℕ)
      → first_wrong 1 (lines_read r (before ++ t)) ≡ first_wrong next (lines_read r t)

module _ (r : Bool) (known coming later : Option (List ℕ)) (lines part : List ℕ) (over : Bool)
    (first : ℕ) (h : IsJudgedTo r known coming first) (read : IsPartRead r lines over part) where
  -- a block more was judged
  pub judged_on : (next : ℕ) → over ≡ false
      → IfSome coming (λ text. AreCutOff text lines false later)
      → AreRight first (lines_of part) next → IsJudgedTo r known later next
  judged_on next goes cut right = record {
    before = h.before ++ (lines ++ 10 ∷ []);
    rest = rest_behind known coming later h.before lines h.rest cut;
    wrong = λ t. ap (λ xs. first_wrong 1 (lines_read r xs)) (joined h.before lines t)
        ∙ h.wrong (lines ++ 10 ∷ t)
        ∙ ap (first_wrong first) (read.before_more goes t)
        ∙ wrong_behind first (lines_of part) (lines_read r t) right.0
        ∙ ap (λ n. first_wrong n (lines_read r t)) (sym right.1);
  }

  -- and it was the last one
  pub judged_last : (next : ℕ) → over ≡ true
      → IfSome coming (λ text. AreCutOff text lines true later)
      → AreRight first (lines_of part) next → IsRightText r known
  judged_last next is cut right = record {
    octets = h.before ++ lines;
    given = rest_last known coming later h.before lines h.rest cut;
    right = h.wrong lines ∙ read.last_wrong is first ∙ right.0;
  }

  -- or a line of it is wrong
  pub judged_wrong : (n : ℕ) → IfSome coming (λ text. AreCutOff text lines over later)
      → first_wrong first (lines_of part) ≡ Some n → IsWrongText r known n
  judged_wrong n cut wrong = by over refl cut
    where
      by : (o : Bool) → over ≡ o → IfSome coming (λ text. AreCutOff text lines o later)
          → IsWrongText r known n
      by true is cut = record {
        octets = h.before ++ lines;
        given = rest_last known coming later h.before lines h.rest cut;
        wrong = h.wrong lines ∙ read.last_wrong is first ∙ wrong;
      }
      by false goes cut =
          let some = rest_more known coming later h.before lines h.rest cut in
          record {
            octets = h.before ++ (lines ++ 10 ∷ some.0);
            given = some.1;
            wrong = h.wrong (lines ++ 10 ∷ some.0)
                ∙ ap (first_wrong first) (read.before_more goes some.0)
                ∙ wrong_before first n (lines_of part) (lines_read r some.0) wrong;
          }

-- of a block that was read so
module _ (r : Bool) (known coming : Option (List ℕ)) (first : ℕ)
    (h : IsJudgedTo r known coming first) (block : Reading) (lines part : List ℕ)
    (same : lines ≡ block.lines) (cut : IfSome coming (λ text. IsGiven text block))
    (read : IsPartRead r lines block.is_over part) where
  pub judged_block : (next : ℕ) → block.is_over ≡ false → AreRight first (lines_of part) next
      → IsJudgedTo r known block.coming next
  judged_block next is right = judged_on r known coming block.coming lines part block.is_over
      first h read next is (cut_as block lines coming same cut false is) right

  pub judged_all : (next : ℕ) → block.is_over ≡ true → AreRight first (lines_of part) next
      → IsRightText r known
  judged_all next is right = judged_last r known coming block.coming lines part block.is_over
      first h read next is (cut_as block lines coming same cut true is) right

  pub judged_fault : (fault : Fault) → IsLineFault first part fault → IsJudgedFault r known fault
  judged_fault (Trace n) wrong = judged_wrong r known coming block.coming lines part
      block.is_over first h read n (cut_as block lines coming same cut block.is_over refl) wrong
  judged_fault NoMemory wrong = tt
  judged_fault other wrong = absurd wrong

-- Running

-- how far a run over a text has come, and what was printed of it
pub record RunsTo (IsTextBy : Log → List ℕ → Type 0) (r : Bool) (known coming : Option (List ℕ))
    (began state : State) (s : Standing)
    (is_whole : Bool) (old new : Option (List ℕ)) : Type 0 where
  pub before : List ℕ
  pub rest : IsRest known before coming
  pub right : (t : List ℕ) → first_wrong 1 (lines_read r t) ≡ None
      → first_wrong 1 (lines_read r (before ++ t)) ≡ None
  pub events : (t : List ℕ)
      → events_of s.log ++ behind_tick s.started (events_in (lines_read r t))
      ≡ script_read r (before ++ t)
  pub goes : (p : Setup) → Follows p began (Some []) → Follows p state (Some s.log)
      × HasRested p s.log
  pub faithful : Keeps old new ⊎ ((p : Setup) → Follows p began (Some []) → IsFaithful p s.log)
  pub clear : IsClearPause s
  pub lines : List ℕ
  pub written : IsTextBy s.log lines
  pub poured : IsPoured is_whole old new lines

-- the events of a part, if the tick came before
later_events : (b : Bool) (es : List LogEntry) → b ≡ true → behind_tick b es ≡ es
later_events true es is = refl
later_events false es is = cc

part_events : (b : Bool) (text : List ℕ) → events_of_part (not b) text
    ≡ behind_tick b (events_in (lines_of text))
part_events true text = refl
part_events false text = refl

behind_joined : (b : Bool) (xs ys : List LogEntry) → behind_tick b (xs ++ ys)
    ≡ behind_tick b xs ++ ys
behind_joined true xs ys = refl
behind_joined false xs ys = refl

-- the events of lines, and of what follows them
events_on : (r : Bool) (earlier : List LogEntry) (b : Bool) (lines part t : List ℕ)
    → lines_read r (lines ++ 10 ∷ t) ≡ lines_of part ++ lines_read r t
    → (earlier ++ events_of_part (not b) part) ++ events_in (lines_read r t)
    ≡ earlier ++ behind_tick b (events_in (lines_read r (lines ++ 10 ∷ t)))
events_on r earlier b lines part t more =
    let later = events_in (lines_read r t) in
    append_assoc earlier (events_of_part (not b) part) later
    ∙ ap (λ es. earlier ++ es) (ap (λ es. es ++ later) (part_events b part)
    ∙ sym (behind_joined b (events_in (lines_of part)) later)
    ∙ ap (behind_tick b) (sym (events_joined (lines_of part) (lines_read r t))
    ∙ ap events_in (sym more)))

module _ (IsTextBy : Log → List ℕ → Type 0) (r : Bool) (known coming later : Option (List ℕ))
    (began state : State) (s : Standing)
    (is_whole : Bool) (old new : Option (List ℕ)) (lines part : List ℕ) (over : Bool)
    (h : RunsTo IsTextBy r known coming began state s is_whole old new)
    (read : IsPartRead r lines over part) where
  -- all events of the last part
  last_part_events : over ≡ true → events_of s.log ++ events_of_part (not s.started) part
      ≡ script_read r (h.before ++ lines)
  last_part_events is = ap (λ es. events_of s.log ++ es) (part_events s.started part
      ∙ ap (behind_tick s.started) (sym (read.last_events is))) ∙ h.events lines

  -- a block more was run
  pub ran_on : (ended : State) (after : Standing) (whole : Bool) (newer : Option (List ℕ))
      (text : List ℕ) → over ≡ false
      → IfSome coming (λ text. AreCutOff text lines false later)
      → IsPartRun s part state ended after
      → IsTextBy after.log text → IsPoured whole old newer text
      → RunsTo IsTextBy r known later began ended after whole old newer
  ran_on ended after whole newer text goes cut run written poured = record {
    before = h.before ++ (lines ++ 10 ∷ []);
    rest = rest_behind known coming later h.before lines h.rest cut;
    right = λ t right. ap (λ xs. first_wrong 1 (lines_read r xs)) (joined h.before lines t)
        ∙ h.right (lines ++ 10 ∷ t) (ap (first_wrong 1) (read.before_more goes t)
        ∙ wrong_behind 1 (lines_of part) (lines_read r t) run.right
        ∙ none_wrong_from 1 (1 + length (lines_of part)) (lines_read r t) right);
    events = λ t. ap (λ es. events_of after.log ++ es)
        (later_events after.started (events_in (lines_read r t)) run.started)
        ∙ ap (λ es. es ++ events_in (lines_read r t)) run.events
        ∙ events_on r (events_of s.log) s.started lines part t (read.before_more goes t)
        ∙ h.events (lines ++ 10 ∷ t) ∙ ap (script_read r) (sym (joined h.before lines t));
    goes = λ p begins. let at = h.goes p begins in
        let done = run.goes p at.0 at.1 in
        (done.follows, done.rests);
    faithful = inr (λ p begins. let at = h.goes p begins in
        let done = run.goes p at.0 at.1 in
        done.faithful);
    clear = run.clear;
    lines = text;
    written = written;
    poured = poured;
  }

  -- and it was the last one
  pub ran_last : (ended : State) (after : Standing) (whole : Bool) (newer : Option (List ℕ))
      (text : List ℕ) → over ≡ true
      → IfSome coming (λ text. AreCutOff text lines true later)
      → IsPartRun s part state ended after
      → IsTextBy after.log text → IsPoured whole old newer text
      → IsPartsRun IsTextBy r known began ended old newer whole
  ran_last ended after whole newer text is cut run written poured = record {
    octets = h.before ++ lines;
    given = rest_last known coming later h.before lines h.rest cut;
    right = h.right lines (read.last_wrong is 1 ∙ run.right);
    log = after.log;
    events = run.events ∙ last_part_events is;
    goes = λ p begins rested. let at = h.goes p begins in run.goes p at.0 at.1;
    lines = text;
    written = written;
    poured = poured;
  }

  -- or the run stopped in it
  pub ran_into : (newer : Option (List ℕ))
      → IfSome coming (λ text. AreCutOff text lines over later)
      → IsPartStopped IsTextBy s part state old newer
      → IsStoppedOver IsTextBy r known began old newer
  ran_into newer cut stop = by over refl cut
    where
      by : (o : Bool) → over ≡ o → IfSome coming (λ text. AreCutOff text lines o later)
          → IsStoppedOver IsTextBy r known began old newer
      by true is cut = record {
        octets = h.before ++ lines;
        given = rest_last known coming later h.before lines h.rest cut;
        log = stop.log;
        rest = stop.rest;
        events = stop.events ∙ last_part_events is;
        faithful = λ p begins rested. let at = h.goes p begins in stop.faithful p at.0 at.1;
        lines = stop.lines;
        written = stop.written;
        begun = stop.begun;
      }
      by false goes cut =
          let some = rest_more known coming later h.before lines h.rest cut in
          let more = events_in (lines_read r some.0) in
          record {
            octets = h.before ++ (lines ++ 10 ∷ some.0);
            given = some.1;
            log = stop.log;
            rest = stop.rest ++ more;
            events = sym (append_assoc (events_of stop.log) stop.rest more)
                ∙ ap (λ es. es ++ more) stop.events
                ∙ events_on r (events_of s.log) s.started lines part some.0
                (read.before_more goes some.0)
                ∙ h.events (lines ++ 10 ∷ some.0);
            faithful = λ p begins rested. let at = h.goes p begins in stop.faithful p at.0 at.1;
            lines = stop.lines;
            written = stop.written;
            begun = stop.begun;
          }

-- the run stopped between two blocks
pub ran_to : (IsTextBy : Log → List ℕ → Type 0) (r : Bool) (known coming : Option (List ℕ))
    (began state : State)
    (s : Standing)
    (is_whole : Bool) (old new : Option (List ℕ))
    → RunsTo IsTextBy r known coming began state s is_whole old new
    → Keeps old new ⊎ IsStoppedOver IsTextBy r known began old new
ran_to IsTextBy r known coming began state s is_whole old new h = by h.faithful
  where
    by : Keeps old new ⊎ ((p : Setup) → Follows p began (Some []) → IsFaithful p s.log)
        → Keeps old new ⊎ IsStoppedOver IsTextBy r known began old new
    by (inl keeps) = inl keeps
    by (inr faithful) =
        let some = rest_some known coming h.before h.rest in
        inr (record {
          octets = h.before ++ some.0;
          given = some.1;
          log = s.log;
          rest = behind_tick s.started (events_in (lines_read r some.0));
          events = h.events some.0;
          faithful = λ p begins rested. faithful p begins;
          lines = h.lines;
          written = h.written;
          begun = poured_begun is_whole old new h.lines h.poured;
        })

-- at first
pub runs_begin : (IsTextBy : Log → List ℕ → Type 0) (r : Bool) (known coming : Option (List ℕ))
    (began : State)
    (s : Standing)
    (old : Option (List ℕ)) → coming ≡ known
    → s ≡ record { started = r; log = []; poured = []; page = []; failed = 0 } → IsTextBy [] []
    → RunsTo IsTextBy r known coming began began s true old old
runs_begin IsTextBy r known coming began s old all fresh nothing =
    subst (λ (c : Option (List ℕ)). RunsTo IsTextBy r known c began began s true old old) (sym all)
    (subst (λ (x : Standing). RunsTo IsTextBy r known known began began x true old old) (sym fresh)
    (record {
      before = [];
      rest = rest_begins known;
      right = λ t right. right;
      events = λ t. refl;
      goes = λ p begins. (begins, tt);
      faithful = inl (keeps_same old);
      clear = record { healthy = refl; poured = refl };
      lines = [];
      written = nothing;
      poured = appends_none old;
    }))

-- the lines of its actions were printed
pub poured_lines : (known coming : Option (List ℕ)) (began state : State) (s : Standing)
    (is_whole : Bool)
    (old mid : Option (List ℕ)) → RunsTo AreLines false known coming began state s is_whole old mid
    → IsPoured is_whole old mid (lines_of_actions s.log)
poured_lines known coming began state s is_whole old mid h =
    subst (λ (xs : List ℕ). IsPoured is_whole old mid xs) h.written h.poured

-- over a block that was read so
module _ (IsTextBy : Log → List ℕ → Type 0) (r : Bool) (known coming : Option (List ℕ))
    (began state : State)
    (s : Standing)
    (is_whole : Bool) (old mid : Option (List ℕ)) (h : RunsTo IsTextBy r known coming began state s
    is_whole old mid)
    (block : Reading) (lines part : List ℕ) (same : lines ≡ block.lines)
    (cut : IfSome coming (λ text. IsGiven text block))
    (read : IsPartRead r lines block.is_over part) where
  cut_so : (over : Bool) → block.is_over ≡ over
      → IfSome coming (λ text. AreCutOff text lines over block.coming)
  cut_so over is = subst (λ (o : Bool). IfSome coming (λ text. AreCutOff text lines o block.coming))
      is
      (subst (λ (ls : List ℕ). IfSome coming (λ text. AreCutOff text ls block.is_over block.coming))
      (sym same) cut)

  module _ (ended : State) (after : Standing) (whole : Bool) (new : Option (List ℕ))
      (run : IsPartRun s part state ended after) (text : List ℕ) (written : IsTextBy after.log text)
      (poured : IsPoured whole old new text) where
    pub block_run : block.is_over ≡ false
        → RunsTo IsTextBy r known block.coming began ended after whole
        old new
    block_run is = ran_on IsTextBy r known coming block.coming began state s is_whole old mid lines
        part block.is_over h read ended after whole new
        text is (cut_so false is) run written poured

    pub all_run : block.is_over ≡ true → IsPartsRun IsTextBy r known began ended old new whole
    all_run is = ran_last IsTextBy r known coming block.coming began state s is_whole old mid lines
        part block.is_over h read ended after whole new
        text is (cut_so true is) run written poured

  -- the run stopped before it, or in it
  pub block_left : (new : Option (List ℕ)) → (new ≡ mid)
      ⊎ IsPartStopped IsTextBy s part state old new
      → Keeps old new ⊎ IsStoppedOver IsTextBy r known began old new
  block_left new (inl unchanged) =
      subst (λ (n : Option (List ℕ)). Keeps old n ⊎ IsStoppedOver IsTextBy r known began old n)
      (sym unchanged)
      (ran_to IsTextBy r known coming began state s is_whole old mid h)
  block_left new (inr stop) =
      inr (ran_into IsTextBy r known coming block.coming began state s is_whole old mid lines part
      block.is_over h read new (cut_so block.is_over refl) stop)

-- One part

abbrev pub part_start : Standing → List ℕ → Progress
part_start s text = record {
  part = part_behind s text;
  left = Some text;
  started = s.started;
  log = s.log;
  poured = s.poured;
  page = s.page;
  failed = s.failed;
}

abbrev pub standing_of : Progress → Standing
standing_of t = record {
  started = t.started;
  log = t.log;
  poured = t.poured;
  page =
      t.page;
  failed = t.failed;
}

-- a port that is through has begun, and nothing is to come
through_began : (t : Progress) → is_through t ≡ true → t.started ≡ true
through_began t = by t.started t.left
  where
    by : (b : Bool) (left : Option (List ℕ)) → (b && is_none left) ≡ true → b ≡ true
    by true left over = refl
    by false left over = cc

none_coming : (t : Progress) → is_through t ≡ true → coming_in t ≡ []
none_coming t = by t.started t.left
  where
    by : (b : Bool) (left : Option (List ℕ)) → (b && is_none left) ≡ true
        → events_left b t.part.text left ≡ []
    by true None over = refl
    by true (Some text) over = cc
    by false left over = cc

module _ (s : Standing) (text : List ℕ) (began : State) (start port : Progress) (fresh : start
    ≡ part_start s text)
    (course : port.part ≡ start.part) (whole : events_of port.log ++ coming_in port
    ≡ script_of port.part) where
  same_part : port.part ≡ part_behind s text
  same_part = course ∙ ap (λ (t : Progress). t.part) fresh

  -- it was run to its end
  pub part_run : (ended : State) (after : Standing) → after ≡ standing_of port → is_through port
      ≡ true
      → (is_through port ≡ true → first_wrong 1 (lines_of port.part.text) ≡ None)
      → GoesOn began start.log ended port.log → port.failed ≡ 0 → Some port.log ≡ Some port.poured
      → IsPartRun s text began ended after
  part_run ended after is over right goes healthy all =
      subst (IsPartRun s text began ended) (sym is) (record {
        events = sym (append-nil (events_of port.log))
            ∙ ap (λ es. events_of port.log ++ es) (sym (none_coming port over))
            ∙ whole ∙ ap script_of same_part;
        right = subst (λ (q : Part). first_wrong 1 (lines_of q.text) ≡ None) same_part (right over);
        goes = subst (λ (t : Progress). GoesOn began t.log ended port.log) fresh goes;
        started = through_began port over;
        clear = record { healthy = healthy; poured = let e : port.log ≡ port.poured = cc in sym e };
      })

  -- or it was left
  pub part_stopped : (old new : Option (List ℕ)) → StaysFaithful began start.log port.log
      → IsBegun old new (lines_of_actions port.log) → IsPartStopped AreLines s text began old new
  part_stopped old new faithful begun = record {
    log = port.log;
    rest = coming_in port;
    events = whole ∙ ap script_of same_part;
    faithful = subst (λ (t : Progress). StaysFaithful began t.log port.log) fresh faithful;
    lines = lines_of_actions port.log;
    written = refl;
    begun = begun;
  }

  -- its lines so far were printed
  pub part_poured : (is_whole : Bool) (old new : Option (List ℕ)) → IsClearPause s
      → IsPoured is_whole old new (lines_of_actions s.log)
      → IsPoured is_whole old new (lines_of_actions start.poured)
  part_poured is_whole old new clear poured =
      subst (λ (l : Log). IsPoured is_whole old new (lines_of_actions l))
      (sym (ap (λ (t : Progress). t.poured) fresh ∙ clear.poured)) poured

  -- it has no more events than turns
  pub turns_left : (turns : ℕ) → turns ≡ length text + 3
      → MoreEvents turns (Some start.log) (Some port.log) → ⊥
  turns_left turns enough more =
      let came : length (events_of port.log) ≡ length (events_of start.log) + turns = cc in
      let before : length (events_of start.log) ≡ length (events_of s.log) =
      ap (λ (t : Progress). length (events_of t.log)) fresh in
      let split = length-append (events_of port.log) (coming_in port) in
      let all : length (events_of port.log ++ coming_in port)
      ≡ length (events_of s.log ++ events_of_part (not s.started) text) =
      ap length (whole ∙ ap script_of same_part) in
      let parts = length-append (events_of s.log) (events_of_part (not s.started) text) in
      let few = few_events (not s.started) text in
      omega (arith, came, before, split, all, parts, few, enough)
