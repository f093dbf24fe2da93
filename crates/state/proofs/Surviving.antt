-- What outlives a crash of what a store has.
use Rattle.std.proofs.Common.{◌≡◌, ◌∙◌, inl, inr, ℕ, ◌+◌, ◌<◌, ◌≤◌, true, List, []}
use Rattle.std.proofs.Common.{◌∷◌}
use Rattle.std.proofs.Common.{◌++◌, length, take, map, Some, refl, sym, ap}
use Rattle.std.proofs.Common.{subst}
use Rattle.std.proofs.Common.{arith}
use Rattle.std.specs.List.{AllByRecursion, concat}
use Rattle.std.specs.Prelude.{◌⊎◌}
use Rattle.std.proofs.lemmas.List.{length-take-le}
use Rattle.sqlite_disk.specs.Disk.{Only}
use Rattle.sqlite_disk.specs.declared.Disk.{Ghosts}
use Rattle.gateway.specs.Log.{Log}
use Rattle.gateway.specs.Ports.{FitsBuffer, logged_by}
use Rattle.gateway.specs.Restored.{state_lines}
use Rattle.gateway.specs.State.{State}
use Rattle.gateway.specs.declared.ports.Next.{Next}
use Rattle.gateway.specs.declared.ports.Next.TheVariants as answers
use Rattle.segments.specs.Crash.{AreMixing, HasNoOther, IsShut}
use Rattle.segments.specs.Crashes.{AreOlder, StandsIn, Survives, damage_behind, lines_behind}
use Rattle.segments.specs.Crashes.{IsShutAmong, log_text}
use Rattle.segments.specs.Head.{Fits, head_for}
use Rattle.segments.specs.Segment.{body_of, open_of, outcomes_of, own_number, writes_of}
use Rattle.segments.specs.Starts.{IsBlank, IsFoundIn, IsSound}
use Rattle.segments.specs.declared.head.SegmentHead.{SegmentHead}
use Rattle.segments.proofs.Crashes.{one_segment, same_first, whole_left}
use Rattle.segments.proofs.Fronts.{not_shut}
use Rattle.statetext.specs.Sealed.{AreLines, AreWrites}
use Rattle.traces.specs.Event as events
use Rattle.traces.specs.Event.{Event}
use Rattle.traces.specs.Printed.{IsPrintable, lines_of_log}
use Rattle.state.specs.Beginnings.{IsReadWhole, IsWhole}
use Rattle.state.specs.Crashed.{AreLeft, HasLog, IsKeptIn}
use Rattle.state.specs.Replays.{AreRead, whole_lines}
use Rattle.state.specs.Deeds.{Deeds, Received, Appended, Synced, Begun, GivenUp, PutOut, is_kept}
use Rattle.state.specs.Deeds.{waiting, written}
use Rattle.state.specs.Lines.{FitsLine, IsWritable}
use Rattle.state.specs.Doubts.{AreUndoubted, IsUndoubted}
use Rattle.state.specs.Logs.{HasFreshLog, HasOlder, IsOlderBeside, SurvivesAsLogged}
use Rattle.state.specs.Logs.{leaves_amid}
use Rattle.state.specs.Logs.{leaves_both, leaves_in, stored_in}
use Rattle.state.specs.Stores.{IsStored, Stored, head, lines_of_head, safe}
use Rattle.state.specs.declared.opened.Current.{Current}
use Rattle.state.specs.declared.opened.Opened.{Opened}
use Rattle.state.specs.declared.opened.Opened.TheVariants as opens
use Rattle.state.proofs.CrashLines.{all_read, lines_left, nothing_read}
use Rattle.state.proofs.Histories.{all_written}
use Rattle.state.proofs.LogLines.{behind_writable, from_lines, log_lines}

-- Events that a line can hold

pub writable : (next : Next) (buf : List ℕ) → FitsBuffer next → FitsLine next
    → 1024 ≤ length buf → AllByRecursion IsPrintable (logged_by next buf)
    → AllByRecursion IsWritable (logged_by next buf)
writable (answers.Line now len) buf fits line long all =
    let count = length-take-le len buf (omega (arith, fits, long)) in (
      (
        events.line now (take len buf),
        (line.0, all.0.1, omega (arith, count, line.1), omega (arith, count, fits)),
        refl,
      ),
      tt,
    )
writable (answers.Open now) buf fits line long all = ((events.opening now, line, refl), tt)
writable (answers.Bytes now len) buf fits line long all =
    let count = length-take-le len buf (omega (arith, fits, long)) in (
      (
        events.received now (take len buf),
        (line.0, all.0.1, omega (arith, count, line.1), omega (arith, count, fits)),
        refl,
      ),
      tt,
    )
writable (answers.Cut now) buf fits line long all = ((events.cut now, line, refl), tt)
writable (answers.Tick now) buf fits line long all = ((events.tick now, line, refl), tt)
writable (answers.Wall now number) buf fits line long all =
    ((events.wall now number, line, refl), tt)
writable answers.Done buf fits line long all = tt
writable answers.Fault buf fits line long all = tt

pub written_more : (news : Log) (deeds : Deeds) → AllByRecursion IsWritable news
    → AllByRecursion IsWritable (written deeds)
    → AllByRecursion IsWritable (written (map Appended news ++ deeds))
written_more [] deeds all before = before
written_more (event ∷ news) deeds all before = (all.0, written_more news deeds all.1 before)

pub written_received : (news : Log) (deeds : Deeds) → AllByRecursion IsWritable (written deeds)
    → AllByRecursion IsWritable (written (map Received news ++ deeds))
written_received [] deeds before = before
written_received (event ∷ news) deeds before = written_received news deeds before

-- A log that was begun has a head

has_head : (deeds : Deeds) → is_kept deeds ≡ true → (state : State) × (head deeds ≡ Some state)
has_head [] kept = absurd (cc)
has_head (Received event ∷ deeds) kept = has_head deeds kept
has_head (Appended event ∷ deeds) kept = has_head deeds kept
has_head (Synced ∷ deeds) kept = has_head deeds kept
has_head (Begun state ∷ deeds) kept = (state, refl)
has_head (GivenUp fault loss ∷ deeds) kept = absurd (cc)
has_head (PutOut action ∷ deeds) kept = has_head deeds kept

some_head : (settings : List ℕ) (lines logged : List (List ℕ)) → logged ≡ settings ∷ lines
    → logged ≡ [] → ⊥
some_head settings lines logged is none = let no : [] ≡ settings ∷ lines = sym none ∙ is in
    absurd (cc)

-- The file of a log

-- if a segment stands whole, each segment is older than a later one
pub stands_older : (outcomes : List ℕ → Type 0) (own number : ℕ) → StandsIn outcomes own
    → own < number → AreOlder outcomes number
stands_older outcomes own number stands less c left head text fits found =
    let (body, whole, there) = stands c left in
    let same : head.number ≡ own = ap (λ (h : SegmentHead). h.number)
    (same_first c head (head_for own body) fits whole found.first there.first) in
    omega (arith, same, less)

-- What no start doubts

pub stands_sound : (outcomes : List ℕ → Type 0) (own : ℕ) → StandsIn outcomes own
    → AreUndoubted outcomes
stands_sound outcomes own stands c left doubted =
    let (body, whole, there) = stands c left in
    doubted (inr (head_for own body, body, whole, there))

pub shut_sound : (outcomes : List ℕ → Type 0) → IsShut outcomes → AreUndoubted outcomes
shut_sound outcomes shut c left doubted = doubted (inl (shut c left))

pub only_sound : (file : List ℕ) (outcomes : List ℕ → Type 0) → Only file outcomes → IsSound file
    → AreUndoubted outcomes
only_sound file outcomes only sound c left doubted =
    doubted (subst IsSound (sym (only c left)) sound)

-- Two files beside one another

older_than : (outcomes : List ℕ → Type 0) (own : ℕ) → StandsIn outcomes own
    → (file other : List ℕ) → outcomes file
    → ((head : SegmentHead) (text : List ℕ) → Fits head → IsFoundIn other head text
    → head.number < own)
    → HasOlder file other
older_than outcomes own stands file other left below mine head text others fits fits' found
    found' =
    let (body, whole, there) = stands file left in
    let same : mine.number ≡ own = ap (λ (h : SegmentHead). h.number)
    (same_first file mine (head_for own body) fits whole found.first there.first) in
    omega (arith, same, below head others fits' found')

not_blank : (file : List ℕ) → IsBlank file → IsSound file → ⊥
not_blank file none (inl mark) = none.1 mark
not_blank file none (inr found) = not_shut file found.0 found.3.first (inl none.0)

shut_among : (before : List ℕ → Type 0) (file : List ℕ) → AreUndoubted before
    → IsShutAmong before file → IsUndoubted file
shut_among before file sound (inr mark, among) doubted = doubted (inl mark)
shut_among before file sound (inl short, among) doubted =
    let (was, is, none) = among (short, λ mark. doubted (inl mark)) in
    sound was is (not_blank was none)

shut_beside : (before : List ℕ → Type 0) (file other : List ℕ) → AreUndoubted before
    → IsShutAmong before other → IsOlderBeside file other
shut_beside before file other sound shut = record {
  sound = shut_among before other sound shut;
  older = λ own head text others fits fits' found found'.
      absurd (not_shut other head found'.first shut.0);
}

behind_fresh : (outcomes : List ℕ → Type 0) (own : ℕ) → StandsIn outcomes own → (number : ℕ)
    (settings : List ℕ) (lines : List (List ℕ)) (file other : List ℕ) → outcomes file
    → own < number → HasFreshLog number settings lines other → IsOlderBeside other file
behind_fresh outcomes own stands number settings lines file other left less new = record {
  sound = stands_sound outcomes own stands file left;
  older = λ mine head text others fits fits' found found'.
      let (body, whole, there) = stands file left in
      let above : mine.number ≡ number = ap (λ (h : SegmentHead). h.number)
      (same_first other mine (head_for number new.body) fits new.fits found.first
      new.found.first) in
      let below : head.number ≡ own = ap (λ (h : SegmentHead). h.number)
      (same_first file head (head_for own body) fits' whole found'.first there.first) in
      omega (arith, above, below, less);
}

-- The next log, which has no events yet

fresh_lines : (number : ℕ) (settings : List ℕ) (lines : List (List ℕ)) (file : List ℕ)
    → (new : HasFreshLog number settings lines file) → whole_lines (lines_behind new.body file) ≡ []
fresh_lines number settings lines file new = ap whole_lines new.empty ∙ nothing_read

fresh_read : (number : ℕ) (settings : List ℕ) (lines : List (List ℕ)) (file : List ℕ)
    → HasFreshLog number settings lines file → IsReadWhole file
fresh_read number settings lines file new head text fits found =
    let same : text ≡ new.body =
    one_segment file head (head_for number new.body) text new.body fits new.fits found new.found in
    subst (λ (t : List ℕ). IsWhole (lines_behind t file) (damage_behind t file)) (sym same) (
      subst AreRead (sym (fresh_lines number settings lines file new)) refl,
      new.sound,
    )

pub fresh_kept : (number : ℕ) (settings : List ℕ) (state : State) (deeds : Deeds) (file : List ℕ)
    → HasFreshLog number settings (state_lines state) file
    → IsKeptIn settings (Begun state ∷ deeds) file
fresh_kept number settings state deeds file new = record {
  state = state;
  begun = refl;
  begins = 87 + length new.body;
  opening = record {
    head = head_for number new.body;
    body = new.body;
    fits = new.fits;
    found = new.found;
    says = new.says;
    behind = refl;
  };
  left = subst (AreLeft [] []) (sym (fresh_lines number settings (state_lines state) file new))
      (record {
        lost = [];
        left = [];
        split = refl;
        together = inl refl;
        with_news = record { logged = refl; each = refl };
      });
  read = fresh_read number settings (state_lines state) file new;
}

module _ {D : Type 0} {g : Ghosts D} where
  pub current_survives : (current : Current D g)
      → (AreWrites (writes_of current.segment) → Survives (outcomes_of current.segment)
      (own_number current.segment) (body_of current.segment) (writes_of current.segment))
      → (AreMixing g → HasNoOther (outcomes_of current.segment)
      (log_text (own_number current.segment) (body_of current.segment)
      (writes_of current.segment ++ open_of current.segment ∷ [])))
      → AreLines (concat (writes_of current.segment))
      → SurvivesAsLogged (opens.Current current)
  current_survives current survives mixed are = record {
    number = own_number current.segment;
    body = body_of current.segment;
    says = refl;
    writes = writes_of current.segment;
    synced = refl;
    survives = survives (from_lines (writes_of current.segment) are);
    mixed = mixed;
  }

  -- the other file has older segments
  pub current_beside : (current : Current D g)
      → StandsIn (outcomes_of current.segment) (own_number current.segment)
      → (file other : List ℕ) → leaves_both (opens.Current current) file other
      → IsOlderBeside file other
  current_beside current stands file other (clean, left, left') = record {
    sound = current.sound clean other left';
    older = older_than (outcomes_of current.segment) current.number
        (subst (StandsIn (outcomes_of current.segment)) current.own stands) file other left
        (current.older clean other left');
  }

  -- and amid a renewal it may have a newer one
  pub current_amid : (current : Current D g)
      → StandsIn (outcomes_of current.segment) (own_number current.segment)
      → (number : ℕ) (settings : List ℕ) (lines : List (List ℕ)) (file other : List ℕ)
      → leaves_amid (opens.Current current) number settings lines file other
      → IsOlderBeside file other
      ⊎ (HasFreshLog number settings lines other × IsOlderBeside other file)
  current_amid current stands number settings lines file other (clean, less, left, inl shut) =
      inl (shut_beside (g.may_leave current.spare) file other (current.sound clean) shut)
  current_amid current stands number settings lines file other (clean, less, left, inr (inl was)) =
      inl (current_beside current stands file other (clean, left, was))
  current_amid current stands number settings lines file other (clean, less, left, inr (inr new)) =
      inr (
        new,
        behind_fresh (outcomes_of current.segment) current.number
            (subst (StandsIn (outcomes_of current.segment)) current.own stands) number settings
            lines file other left less new,
      )

  pub both_left : (opened : Opened D g) (file other : List ℕ) → leaves_both opened file other
      → leaves_in opened file
  both_left opens.Neither file other left = tt
  both_left (opens.Both newest spare) file other left = tt
  both_left (opens.Current c) file other left = left.1

  pub amid_left : (opened : Opened D g) (number : ℕ) (settings : List ℕ) (lines : List (List ℕ))
      (file other : List ℕ) → leaves_amid opened number settings lines file other
      → leaves_in opened file
  amid_left opens.Neither number settings lines file other left = tt
  amid_left (opens.Both newest spare) number settings lines file other left = tt
  amid_left (opens.Current c) number settings lines file other left = left.2

  -- a log that takes no lines has no head
  pub none_survives : (opened : Opened D g) → (stored_in opened).head ≡ []
      → ((stored_in opened).head ≡ [] → ⊥) → SurvivesAsLogged opened
  none_survives opened none some = absurd (some none)

  pub none_beside : (opened : Opened D g) → (stored_in opened).head ≡ []
      → ((stored_in opened).head ≡ [] → ⊥) → (file other : List ℕ)
      → leaves_both opened file other → IsOlderBeside file other
  none_beside opened none some = absurd (some none)

  pub no_amid : (opened : Opened D g) → (stored_in opened).head ≡ []
      → ((stored_in opened).head ≡ [] → ⊥) → (number : ℕ) (settings : List ℕ)
      (lines : List (List ℕ)) (file other : List ℕ)
      → leaves_amid opened number settings lines file other
      → IsOlderBeside file other
      ⊎ (HasFreshLog number settings lines other × IsOlderBeside other file)
  no_amid opened none some = absurd (some none)

  -- What a start reads there

  kept_so : (opened : Opened D g) (settings : List ℕ) (deeds : Deeds) (state : State)
      (file : List ℕ)
      → head deeds ≡ Some state
      → (stored_in opened).head ≡ settings ∷ state_lines state
      → (stored_in opened).safe ≡ lines_of_log (safe deeds)
      → (stored_in opened).held ≡ lines_of_log (waiting deeds)
      → AllByRecursion IsWritable (waiting deeds ++ safe deeds)
      → AreMixing g → SurvivesAsLogged opened → leaves_in opened file
      → IsKeptIn settings deeds file
  kept_so opened settings deeds state file begun opening synced held all mixing s left =
      let has : HasLog (leaves_in opened) s.number s.body (waiting deeds) (safe deeds) = record {
        writable = all;
        writes = s.writes;
        lines = s.synced ∙ synced;
        survives = s.survives;
        mixed = subst (λ (l : List ℕ). HasNoOther (leaves_in opened)
            (log_text s.number s.body (s.writes ++ l ∷ []))) held (s.mixed mixing);
      } in
      record {
        state = state;
        begun = begun;
        begins = 87 + length s.body;
        opening = record {
          head = head_for s.number s.body;
          body = s.body;
          fits = s.survives.fits;
          found = whole_left (leaves_in opened) s.number s.body s.writes file s.survives left;
          says = s.says ∙ opening;
          behind = refl;
        };
        left = lines_left (leaves_in opened) s.number s.body (waiting deeds) (safe deeds) file has
            left;
        read = all_read (leaves_in opened) s.number s.body (waiting deeds) (safe deeds) file has
            left;
      }

  pub kept_in : (opened : Opened D g) (settings : List ℕ) (deeds : Deeds)
      → IsStored settings deeds (stored_in opened) → AllByRecursion IsWritable (written deeds)
      → (((stored_in opened).head ≡ [] → ⊥) → AreLines (stored_in opened).safe
      → SurvivesAsLogged opened)
      → is_kept deeds ≡ true → AreMixing g → (file : List ℕ) → leaves_in opened file
      → IsKeptIn settings deeds file
  kept_in opened settings deeds stored all survives kept mixing file left =
      let (state, begun) = has_head deeds kept in
      let opening : (stored_in opened).head ≡ settings ∷ state_lines state =
      ap (λ (s : Stored). s.head) (stored kept) ∙ ap (lines_of_head settings) begun in
      let synced : (stored_in opened).safe ≡ lines_of_log (safe deeds) =
      ap (λ (s : Stored). s.safe) (stored kept) in
      let each : AllByRecursion IsWritable (waiting deeds ++ safe deeds) =
      subst (AllByRecursion IsWritable) (all_written deeds) all in
      kept_so opened settings deeds state file begun opening synced
      (ap (λ (s : Stored). s.held) (stored kept)) each mixing
      (survives (some_head settings (state_lines state) (stored_in opened).head opening)
      (subst AreLines (sym synced)
      (log_lines (safe deeds) (behind_writable (waiting deeds) (safe deeds) each)))) left

  pub kept_head : (opened : Opened D g) (settings : List ℕ) (deeds : Deeds)
      → IsStored settings deeds (stored_in opened) → is_kept deeds ≡ true
      → (stored_in opened).head ≡ [] → ⊥
  kept_head opened settings deeds stored kept =
      let (state, begun) = has_head deeds kept in
      some_head settings (state_lines state) (stored_in opened).head
      (ap (λ (s : Stored). s.head) (stored kept) ∙ ap (lines_of_head settings) begun)
